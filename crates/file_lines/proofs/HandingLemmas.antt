-- What is handed on, line by line.
use Rattle.std.proofs.Common.{◌≡◌, ◌<◌, ℕ, List, [], ◌∷◌, ◌++◌, length, map, ap, sym, ◌∙◌, refl, arith, Bool, true, false, None, append_assoc, length-append}
use Rattle.std.proofs.lemmas.List.{length-map}
use Rattle.std.specs.List.{join_with_byte, onto_first, slice_split}
use Rattle.std.specs.Option.{option_and_then, unwrap_or}
use Rattle.std.specs.Str.Lines.{strip_carriage_return}
use Rattle.std.proofs.lemmas.Bool.Decides.{nat_tests}
use Rattle.std.proofs.lemmas.List.Splits.{length-slice_split, slice_split-cons_no, slice_split_at, slice_split_none}
use Rattle.std.proofs.lemmas.List.Elements.{All-head, All-tail}
use Rattle.file_lines.specs.Ahead.{NoLineFeed}
use Rattle.file_lines.specs.Files.{Shelf}
use Rattle.file_lines.specs.HandedLines.{behind_front, handed_behind, handed_line, is_line_feed, longest_line, next_handed, path_in, with_file}

-- a part that isn't the last
join_more : (part : List ℕ) (parts : List (List ℕ)) → 0 < length parts → join_with_byte 10 (part ∷ parts) ≡ part ++ 10 ∷ join_with_byte 10 parts
join_more part [] some = absurd (omega arith)
join_more part (next ∷ parts) some = refl

some_parts : (bytes : List ℕ) → 0 < length (slice_split is_line_feed bytes)
some_parts bytes = omega (arith, length-slice_split is_line_feed bytes)

some_handed : (shelf : Shelf) (bytes : List ℕ) → 0 < length (map (handed_line shelf) (slice_split is_line_feed bytes))
some_handed shelf bytes = omega (arith, some_parts bytes, length-map (slice_split is_line_feed bytes) (handed_line shelf))

-- a part, its line feed and what follows
pub handed_line_feed : (shelf : Shelf) (is_within : Bool) (part rest : List ℕ) → NoLineFeed part
    → handed_behind shelf is_within (part ++ 10 ∷ rest) ≡ next_handed shelf is_within part ++ 10 ∷ handed_behind shelf false rest
handed_line_feed shelf true part rest none =
    ap (λ parts. join_with_byte 10 (behind_front shelf parts)) (slice_split_at is_line_feed part 10 rest none refl)
    ∙ join_more part (map (handed_line shelf) (slice_split is_line_feed rest)) (some_handed shelf rest)
handed_line_feed shelf false part rest none =
    ap (λ parts. join_with_byte 10 (map (handed_line shelf) parts)) (slice_split_at is_line_feed part 10 rest none refl)
    ∙ join_more (handed_line shelf part) (map (handed_line shelf) (slice_split is_line_feed rest)) (some_handed shelf rest)

-- a last line without a line feed
pub handed_last : (shelf : Shelf) (is_within : Bool) (part : List ℕ) → NoLineFeed part → handed_behind shelf is_within part ≡ next_handed shelf is_within part
handed_last shelf true part none = ap (λ parts. join_with_byte 10 (behind_front shelf parts)) (slice_split_none is_line_feed part none)
handed_last shelf false part none = ap (λ parts. join_with_byte 10 (map (handed_line shelf) parts)) (slice_split_none is_line_feed part none)

-- a part that is too long names no file
pub long_names_none : (part : List ℕ) → longest_line < length part → path_in part ≡ None
long_names_none part long = grind (arith, nat_tests)

long_as_it_is : (shelf : Shelf) (part : List ℕ) → longest_line < length part → handed_line shelf part ≡ part
long_as_it_is shelf part long = ap (λ path. unwrap_or (option_and_then (with_file shelf (strip_carriage_return part)) path) part) (long_names_none part long)

some_first : (parts : List (List ℕ)) → 0 < length parts → (head : List ℕ) × (tail : List (List ℕ)) × (parts ≡ head ∷ tail)
some_first [] some = absurd (omega arith)
some_first (part ∷ parts) some = (part, parts, refl)

-- bytes without a line feed begin the first part
first_part : (front more : List ℕ) → NoLineFeed front
    → (head : List ℕ) × (tail : List (List ℕ)) × (slice_split is_line_feed more ≡ head ∷ tail) × (slice_split is_line_feed (front ++ more) ≡ (front ++ head) ∷ tail)
first_part [] more none = let first = some_first (slice_split is_line_feed more) (some_parts more) in (first.0, first.1, first.2, first.2)
first_part (b ∷ bs) more none =
    let rest = first_part bs more (All-tail (λ x. is_line_feed x ≡ false) b bs none) in
    (rest.0, rest.1, rest.2, slice_split-cons_no is_line_feed b (bs ++ more) (All-head (λ x. is_line_feed x ≡ false) b bs none) ∙ ap (onto_first b) rest.3)

join_front : (front head : List ℕ) (tail : List (List ℕ)) → join_with_byte 10 ((front ++ head) ∷ tail) ≡ front ++ join_with_byte 10 (head ∷ tail)
join_front front head [] = refl
join_front front head (next ∷ tail) = append_assoc front head (10 ∷ join_with_byte 10 (next ∷ tail))

first_as_it_is : (shelf : Shelf) (is_within : Bool) (front head : List ℕ) (tail : List (List ℕ)) (bytes : List ℕ) → (is_within ≡ false → longest_line < length (front ++ head))
    → slice_split is_line_feed bytes ≡ (front ++ head) ∷ tail → handed_behind shelf is_within bytes ≡ join_with_byte 10 ((front ++ head) ∷ map (handed_line shelf) tail)
first_as_it_is shelf true front head tail bytes long split = ap (λ parts. join_with_byte 10 (behind_front shelf parts)) split
first_as_it_is shelf false front head tail bytes long split =
    ap (λ parts. join_with_byte 10 (map (handed_line shelf) parts)) split
    ∙ ap (λ part. join_with_byte 10 (part ∷ map (handed_line shelf) tail)) (long_as_it_is shelf (front ++ head) (long refl))

front_longer : (front head : List ℕ) → longest_line < length front → longest_line < length (front ++ head)
front_longer front head long = omega (arith, long, length-append front head)

-- a front of a line that is handed on as it is: it follows on one, or is too long
pub handed_front : (shelf : Shelf) (is_within : Bool) (front more : List ℕ) → NoLineFeed front → (is_within ≡ false → longest_line < length front)
    → handed_behind shelf is_within (front ++ more) ≡ front ++ handed_behind shelf true more
handed_front shelf is_within front more none long =
    let parts = first_part front more none in
    let longer = λ (out : is_within ≡ false). front_longer front parts.0 (long out) in
    first_as_it_is shelf is_within front parts.0 parts.1 (front ++ more) longer parts.3 ∙ join_front front parts.0 (map (handed_line shelf) parts.1)
    ∙ ap (λ l. front ++ l) (sym (ap (λ ps. join_with_byte 10 (behind_front shelf ps)) parts.2))
