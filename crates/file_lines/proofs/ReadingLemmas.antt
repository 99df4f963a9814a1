-- What was read ahead, and the first line feed.
use Rattle.std.proofs.Common.{◌≡◌, ◌≤◌, ◌+◌, ℕ, List, [], ◌∷◌, ◌++◌, length, ap, sym, ◌∙◌, refl, arith, true, false, take, drop, append_assoc, None, Some, length-drop, take-append-drop, take-add}
use Rattle.std.specs.declared.option.Option.{Option}
use Rattle.std.specs.Option.{option_map}
use Rattle.std.proofs.lemmas.List.{drop-drop}
use Rattle.std.proofs.Math.Seq.{take-append_seam}
use Rattle.std.proofs.lemmas.List.Elements.{All-append, All-same}
use Rattle.std.specs.Io.KnownBytes.{Consumes, IsAtEnd, Keeps}
use Rattle.file_lines.specs.Ahead.{FirstLineFeed, NoLineFeed, to_come}
use Rattle.file_lines.specs.HandedLines.{is_line_feed}

searched_next : (searched at : ℕ) → searched + (at + 1) ≡ searched + at + 1
searched_next searched at = omega arith

-- the first line feed, where the first bytes have none
pub first_behind : (bytes : List ℕ) (searched : ℕ) (found : Option ℕ) → searched ≤ length bytes → NoLineFeed (take searched bytes) → FirstLineFeed (drop searched bytes) found
    → FirstLineFeed bytes (option_map (λ at. searched + at) found)
first_behind bytes searched None within none rest =
    All-same (λ b. is_line_feed b ≡ false) bytes (take searched bytes ++ drop searched bytes) (sym (take-append-drop searched bytes)) (All-append (λ b. is_line_feed b ≡ false) (take searched bytes) (drop searched bytes) none rest)
first_behind bytes searched (Some at) within none (inside, before, split) = (
  omega (arith, length-drop searched bytes),
  All-same (λ b. is_line_feed b ≡ false) (take (searched + at) bytes) (take searched bytes ++ take at (drop searched bytes)) (take-add searched at bytes) (All-append (λ b. is_line_feed b ≡ false) (take searched bytes) (take at (drop searched bytes)) none before),
  sym (take-append-drop searched bytes) ∙ ap (λ w. take searched bytes ++ w) split ∙ sym (append_assoc (take searched bytes) (take at (drop searched bytes)) (10 ∷ drop (at + 1) (drop searched bytes)))
      ∙ rw (← take-add searched at bytes, drop-drop (at + 1) searched bytes, searched_next searched at) refl,
)

-- bytes that were searched, when more stand behind them
pub searched_front : (bytes piece now : List ℕ) (n : ℕ) → n ≡ length bytes → now ≡ bytes ++ piece → NoLineFeed bytes → NoLineFeed (take n now)
searched_front bytes piece now n all is none =
    All-same (λ b. is_line_feed b ≡ false) (take n now) bytes (rw (all, is) (take-append_seam bytes piece)) none

-- a piece that was read stands behind what is pending
pub coming_filled : (left left' : Option (List ℕ)) (pending pending' piece : List ℕ) → Consumes left left' piece → pending' ≡ pending ++ piece
    → Keeps (to_come false pending left) (to_come false pending' left')
coming_filled None left' pending pending' piece got is = tt
coming_filled (Some xs) None pending pending' piece got is = absurd got
coming_filled (Some xs) (Some ys) pending pending' piece got is =
    ap (λ l. l ++ ys) is ∙ append_assoc pending piece ys ∙ ap (λ l. pending ++ l) (sym got)

-- the end was seen
pub coming_ended : (left left' : Option (List ℕ)) (pending pending' : List ℕ) → IsAtEnd left → pending' ≡ pending
    → Keeps (to_come false pending left) (to_come true pending' left')
coming_ended None left' pending pending' ends is = tt
coming_ended (Some xs) left' pending pending' ends is = ap (λ l. l ++ []) is ∙ ap (λ l. pending ++ l) (sym ends)

-- nothing was read
pub coming_kept : (left left' : Option (List ℕ)) (pending pending' : List ℕ) → Keeps left left' → pending' ≡ pending
    → Keeps (to_come false pending left) (to_come false pending' left')
coming_kept None left' pending pending' kept is = tt
coming_kept (Some xs) None pending pending' kept is = absurd kept
coming_kept (Some xs) (Some ys) pending pending' kept is = ap (λ l. l ++ ys) is ∙ ap (λ l. pending ++ l) kept
