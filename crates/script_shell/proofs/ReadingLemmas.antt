-- Lemmas on bytes that are still to come.
use Rattle.std.proofs.Common.{◌≡◌, ◌<◌, ◌≤◌, ◌+◌, ℕ, List, [], ◌∷◌, ◌++◌, length, ap, sym, ◌∙◌, refl, arith, false, take, drop, append_assoc, append-nil, None, Some, length-drop, take-append-drop, take-add}
use Rattle.std.specs.declared.option.Option.{Option}
use Rattle.std.specs.Option.{option_map}
use Rattle.std.proofs.lemmas.List.{drop-drop}
use Rattle.std.proofs.Math.Seq.{take-append_seam}
use Rattle.std.proofs.lemmas.List.Elements.{All-append, All-same}
use Rattle.std.specs.Io.KnownBytes.{Consumes, IsAtEnd, Keeps}
use Rattle.std.proofs.KnownBytes.{Consumes-kept, Consumes-nil, Consumes-trans}
use Rattle.script_shell.specs.declared.line_input.LineStep.{LineStep}
use Rattle.script_shell.specs.declared.line_input.LineStep.TheVariants.{Line as OfLine, TooLong, End, Failed, NoMemory}
use Rattle.script_shell.specs.Lines.{is_line_feed, lines_of, longest_line}
use Rattle.script_shell.specs.Reading.{Tells, SameBytes, FirstLineFeed, HasRead, LineRead, NoLineFeed, NextLine, IsLastLine, TakesLine}
use Rattle.script_shell.proofs.LineLemmas.{lines_of_line, lines_of_last, lines_of_front}

take_add : (bytes : List ℕ) (n m : ℕ) → take (n + m) bytes ≡ take n bytes ++ take m (drop n bytes)
take_add bytes n m = take-add n m bytes

searched_next : (searched at : ℕ) → searched + (at + 1) ≡ searched + at + 1
searched_next searched at = omega arith

-- the first line feed, where the first bytes have none
pub first_behind : (bytes : List ℕ) (searched : ℕ) (found : Option ℕ) → searched ≤ length bytes → NoLineFeed (take searched bytes) → FirstLineFeed (drop searched bytes) found
    → FirstLineFeed bytes (option_map (λ at. searched + at) found)
first_behind bytes searched None within none rest =
    All-same (λ b. is_line_feed b ≡ false) bytes (take searched bytes ++ drop searched bytes) (sym (take-append-drop searched bytes)) (All-append (λ b. is_line_feed b ≡ false) (take searched bytes) (drop searched bytes) none rest)
first_behind bytes searched (Some at) within none (inside, before, split) = (
  omega (arith, length-drop searched bytes),
  All-same (λ b. is_line_feed b ≡ false) (take (searched + at) bytes) (take searched bytes ++ take at (drop searched bytes)) (take_add bytes searched at) (All-append (λ b. is_line_feed b ≡ false) (take searched bytes) (take at (drop searched bytes)) none before),
  sym (take-append-drop searched bytes) ∙ ap (λ w. take searched bytes ++ w) split ∙ sym (append_assoc (take searched bytes) (take at (drop searched bytes)) (10 ∷ drop (at + 1) (drop searched bytes)))
      ∙ rw (← take_add bytes searched at, drop-drop (at + 1) searched bytes, searched_next searched at) refl,
)

-- some bytes may be left
pub some_told : (left : Option (List ℕ)) → (bytes : List ℕ) × Tells left bytes
some_told None = ([], tt)
some_told (Some bytes) = (bytes, refl)

pub same_bytes_refl : (left : Option (List ℕ)) (pending : List ℕ) → SameBytes left left pending pending
same_bytes_refl left pending = λ more told. (more, told, refl)

pub same_bytes_trans : (a b c : Option (List ℕ)) (p q r : List ℕ) → SameBytes a b p q → SameBytes b c q r → SameBytes a c p r
same_bytes_trans a b c p q r first second =
    λ more told. let later = second more told in let before = first later.0 later.1 in (before.0, before.1, before.2 ∙ later.2)

-- a piece that was got
pub same_bytes_got : (a b : Option (List ℕ)) (pending piece : List ℕ) → Consumes a b piece → SameBytes a b pending (pending ++ piece)
same_bytes_got None b pending piece got = λ more told. (piece ++ more, tt, sym (append_assoc pending piece more))
same_bytes_got (Some xs) None pending piece got = absurd got
same_bytes_got (Some xs) (Some ys) pending piece got =
    λ more told. (piece ++ more, got ∙ ap (λ w. piece ++ w) told, sym (append_assoc pending piece more))

pub same_bytes_read : (a b : Option (List ℕ)) (pending now : List ℕ) → HasRead a b pending now → SameBytes a b pending now
same_bytes_read a b pending now (piece, got, is) = rw is (same_bytes_got a b pending piece got)

-- nothing was read yet
pub has_read_none : (a : Option (List ℕ)) (pending : List ℕ) → HasRead a a pending pending
has_read_none a pending = ([], Consumes-nil a, sym (append-nil pending))

-- a read that failed moved nothing
pub has_read_kept : (a b c : Option (List ℕ)) (pending now now' : List ℕ) → HasRead a b pending now → Keeps b c → now' ≡ now → HasRead a c pending now'
has_read_kept a b c pending now now' (piece, got, is) kept same = (piece, Consumes-kept a b c piece got kept, same ∙ is)

-- one piece more
pub has_read_more : (a b c : Option (List ℕ)) (pending now now' : List ℕ) → HasRead a b pending now → HasRead b c now now' → HasRead a c pending now'
has_read_more a b c pending now now' (piece, got, is) (next, later, then) =
    (piece ++ next, Consumes-trans a b c piece next got later, then ∙ ap (λ w. w ++ next) is ∙ append_assoc pending piece next)

-- the end was seen
pub same_bytes_end : (a : Option (List ℕ)) (pending : List ℕ) → IsAtEnd a → SameBytes a (Some []) pending pending
same_bytes_end None pending ends = λ more told. (more, tt, refl)
same_bytes_end (Some xs) pending ends = λ more told. (more, ends ∙ told, refl)

-- the next line, up to a line feed
pub next_line_found : (a b : Option (List ℕ)) (pending now line rest now' : List ℕ) (step : LineStep) → SameBytes a b pending now → NoLineFeed line → now ≡ line ++ 10 ∷ rest
    → TakesLine line rest now' step → NextLine a b pending now' step
next_line_found a b pending now line rest now' (OfLine text) same none is (short, stripped, left) = (
  length line,
  short,
  λ more told.
      let before = same more told in (
        before.0,
        before.1,
        ap lines_of (before.2 ∙ ap (λ w. w ++ more) is ∙ append_assoc line (10 ∷ rest) more) ∙ lines_of_line line (rest ++ more) none
            ∙ ap (λ (w : List ℕ). record { text = w; size = length line } ∷ lines_of (rest ++ more)) (sym stripped) ∙ ap (λ w. record { text = text; size = length line } ∷ lines_of (w ++ more)) (sym left),
      ),
)
next_line_found a b pending now line rest now' TooLong same none is long =
    let told = some_told b in
    let before = same told.0 told.1 in
    (before.0, record { text = _; size = length line }, lines_of (rest ++ told.0), before.1, long, ap lines_of (before.2 ∙ ap (λ w. w ++ told.0) is ∙ append_assoc line (10 ∷ rest) told.0) ∙ lines_of_line line (rest ++ told.0) none)
next_line_found a b pending now line rest now' End same none is taken = absurd taken
next_line_found a b pending now line rest now' Failed same none is taken = absurd taken
next_line_found a b pending now line rest now' NoMemory same none is taken = tt

-- the next line up to a line feed, whatever comes
pub line_read_found : (a b : Option (List ℕ)) (pending now line rest now' : List ℕ) (step : LineStep) → HasRead a b pending now → NoLineFeed line → now ≡ line ++ 10 ∷ rest
    → TakesLine line rest now' step → LineRead a b pending now' step
line_read_found a b pending now line rest now' (OfLine text) (piece, got, all) none is (short, stripped, left) = (
  piece,
  length line,
  got,
  short,
  λ more.
      ap (λ w. lines_of (w ++ more)) (sym all ∙ is) ∙ ap lines_of (append_assoc line (10 ∷ rest) more) ∙ lines_of_line line (rest ++ more) none
      ∙ ap (λ (w : List ℕ). record { text = w; size = length line } ∷ lines_of (rest ++ more)) (sym stripped) ∙ ap (λ w. record { text = text; size = length line } ∷ lines_of (w ++ more)) (sym left),
)
line_read_found a b pending now line rest now' TooLong has none is taken = tt
line_read_found a b pending now line rest now' End has none is taken = tt
line_read_found a b pending now line rest now' Failed has none is taken = absurd taken
line_read_found a b pending now line rest now' NoMemory has none is taken = tt

-- a line that is too long already, whatever comes
pub long_line_found : (a b : Option (List ℕ)) (pending now now' : List ℕ) → SameBytes a b pending now → NoLineFeed now → longest_line < length now → NextLine a b pending now' TooLong
long_line_found a b pending now now' same none long =
    let told = some_told b in
    let before = same told.0 told.1 in
    let first = lines_of_front now told.0 none (omega arith) in
    (before.0, first.0, first.1, before.1, omega (arith, first.3), ap lines_of before.2 ∙ first.2)

-- what is pending at the end of the input
pub last_line_found : (a : Option (List ℕ)) (pending now rest : List ℕ) (step : LineStep) → SameBytes a (Some []) pending now → NoLineFeed now → length now ≤ longest_line
    → IsLastLine now rest step → NextLine a (Some []) pending rest step
last_line_found a pending now rest (OfLine text) same none short (some, is, empty) = (
  length now,
  short,
  λ more told.
      let before = same [] refl in (
        before.0,
        before.1,
        ap lines_of (before.2 ∙ append-nil now) ∙ lines_of_last now none some ∙ ap (λ (w : List ℕ). record { text = w; size = length now } ∷ []) (sym is)
            ∙ ap (λ w. record { text = text; size = length now } ∷ lines_of w) (sym (ap (λ w. w ++ more) empty ∙ sym told)),
      ),
)
last_line_found a pending now rest End same none short last = let before = same [] refl in (before.0, before.1, ap lines_of (before.2 ∙ append-nil now ∙ last))
last_line_found a pending now rest TooLong same none short last = absurd last
last_line_found a pending now rest Failed same none short last = absurd last
last_line_found a pending now rest NoMemory same none short last = absurd last

-- bytes that were searched, when more stand behind them
pub searched_front : (bytes piece now : List ℕ) (n : ℕ) → n ≡ length bytes → now ≡ bytes ++ piece → NoLineFeed bytes → NoLineFeed (take n now)
searched_front bytes piece now n all is none =
    All-same (λ b. is_line_feed b ≡ false) (take n now) bytes (rw (all, is) (take-append_seam bytes piece)) none

-- all bytes were searched
pub searched_all : (bytes : List ℕ) (n : ℕ) → n ≡ length bytes → NoLineFeed bytes → NoLineFeed (take n bytes)
searched_all bytes n all none = searched_front bytes [] bytes n all (sym (append-nil bytes)) none
