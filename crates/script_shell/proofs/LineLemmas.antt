-- Lemmas on lines.
use Rattle.std.proofs.Common.{◌≡◌, ◌<◌, ◌≤◌, ℕ, List, [], ◌∷◌, ◌++◌, length, ap, ◌∙◌, refl, arith, false, length-append}
use Rattle.std.specs.List.{slice_split, onto_first}
use Rattle.std.specs.Str.Lines.{strip_carriage_return}
use Rattle.std.proofs.lemmas.List.Splits.{length-slice_split, slice_split-cons_no, slice_split_at, slice_split_none}
use Rattle.std.proofs.lemmas.List.Elements.{All-head, All-tail}
use Rattle.script_shell.specs.Lines.{Line, is_line_feed, lines_of, lines_of_parts}
use Rattle.script_shell.specs.Reading.{NoLineFeed}

-- a part that isn't the last is a line
pub lines_of_parts_more : (part : List ℕ) (parts : List (List ℕ)) → 0 < length parts
    → lines_of_parts (part ∷ parts) ≡ record { text = strip_carriage_return part; size = length part } ∷ lines_of_parts parts
lines_of_parts_more part [] some = absurd (omega arith)
lines_of_parts_more part (next ∷ parts) some = refl

-- a line, its line feed and what follows
pub lines_of_line : (line rest : List ℕ) → NoLineFeed line
    → lines_of (line ++ 10 ∷ rest) ≡ record { text = strip_carriage_return line; size = length line } ∷ lines_of rest
lines_of_line line rest none =
    ap lines_of_parts (slice_split_at is_line_feed line 10 rest none refl) ∙ lines_of_parts_more line (slice_split is_line_feed rest) (omega (arith, length-slice_split is_line_feed rest))

last_part : (line : List ℕ) → 0 < length line → lines_of_parts (line ∷ []) ≡ record { text = line; size = length line } ∷ []
last_part [] some = absurd (omega arith)
last_part (b ∷ bs) some = refl

-- a last line without a line feed
pub lines_of_last : (line : List ℕ) → NoLineFeed line → 0 < length line → lines_of line ≡ record { text = line; size = length line } ∷ []
lines_of_last line none some = ap lines_of_parts (slice_split_none is_line_feed line none) ∙ last_part line some

-- a list that isn't empty
some_first : (parts : List (List ℕ)) → 0 < length parts → (head : List ℕ) × (tail : List (List ℕ)) × (parts ≡ head ∷ tail)
some_first [] some = absurd (omega arith)
some_first (part ∷ parts) some = (part, parts, refl)

-- bytes without a line feed begin the first part
first_part : (front more : List ℕ) → NoLineFeed front → (head : List ℕ) × (tail : List (List ℕ)) × (slice_split is_line_feed (front ++ more) ≡ (front ++ head) ∷ tail)
first_part [] more none = some_first (slice_split is_line_feed more) (omega (arith, length-slice_split is_line_feed more))
first_part (b ∷ bs) more none =
    let rest = first_part bs more (All-tail (λ x. is_line_feed x ≡ false) b bs none) in
    (rest.0, rest.1, slice_split-cons_no is_line_feed b (bs ++ more) (All-head (λ x. is_line_feed x ≡ false) b bs none) ∙ ap (onto_first b) rest.2)

first_line_of : (part : List ℕ) (parts : List (List ℕ)) → 0 < length part → (line : Line) × (lines : List Line) × (lines_of_parts (part ∷ parts) ≡ line ∷ lines) × (line.size ≡ length part)
first_line_of part [] some = (record { text = part; size = length part }, [], last_part part some, refl)
first_line_of part (next ∷ parts) some = (record { text = strip_carriage_return part; size = length part }, lines_of_parts (next ∷ parts), refl, refl)

-- bytes without a line feed make the first line no shorter, whatever comes behind them
pub lines_of_front : (front more : List ℕ) → NoLineFeed front → 0 < length front → (line : Line) × (lines : List Line) × (lines_of (front ++ more) ≡ line ∷ lines) × (length front ≤ line.size)
lines_of_front front more none some =
    let parts = first_part front more none in
    let first = first_line_of (front ++ parts.0) parts.1 (omega (arith, length-append front parts.0)) in
    (first.0, first.1, ap lines_of_parts parts.2 ∙ first.2, omega (arith, length-append front parts.0, first.3))
