-- The lines of a text, one after the other.
use Rattle.std.proofs.Common.{◌≡◌, ℕ, ◌+◌, ◌<◌, ◌&&◌, ◌||◌, List, [], ◌∷◌, ◌++◌, true, false, eqb, eqb-true, refl, sym, ap, ◌∙◌, arith, drop, length, suc, map, ◌⊎◌, inl, inr, append_assoc, ◌≤◌}
use Rattle.std.proofs.lemmas.List.{append-nil, drop-drop, drop_all, length-drop}
use Rattle.std.proofs.lemmas.Bool.{and_parts, lt-ltb, le-ltb}
use Rattle.bundle_headers.specs.Lines.{begun_at, end_length, ended_at, ends_line, is_filled, line_length, lines_from, marked, plain_line, section, starts_with_feed, up_to_empty}
use Rattle.bundle_headers.specs.declared.line.Line.{Line}

-- the lines from a place on, of those that stand there
abbrev on : ℕ → ℕ → ℕ → List ℕ → List Line
on number at n bs = lines_from (number + 1) (at + n) (drop n bs)

-- the lines behind the first
abbrev pub behind : ℕ → ℕ → List ℕ → List Line
behind number at bs = on number at (line_length bs + end_length (drop (line_length bs) bs)) bs

abbrev pub first_and_rest : ℕ → ℕ → List ℕ → List Line
first_and_rest number at bs = plain_line number at (at + line_length bs) ∷ behind number at bs

abbrev Split : ℕ → ℕ → List ℕ → Type 0
Split number at bs = lines_from number at bs ≡ first_and_rest number at bs

moved : (number at n m : ℕ) (bs : List ℕ) → n ≡ m → on number at n bs ≡ on number at m bs
moved number at n m bs e = ap (λ k. on number at k bs) e

feed : (number at : ℕ) (bs : List ℕ) → starts_with_feed bs ≡ true → ended_at at (lines_from number (at + 1) bs) ≡ plain_line number at at ∷ lines_from (number + 1) (at + 2) (drop 1 bs)
feed number at [] e = absurd (cc)
feed number at (c ∷ cs) e =
    let same = eqb-true c 10 e in
    let places : at + 1 + 1 ≡ at + 2 = omega arith in
    rw same (ap (λ k. plain_line number at at ∷ lines_from (number + 1) k cs) places)

-- a line's end stands here
both : (number at b : ℕ) (bs : List ℕ) → (eqb b 13 && starts_with_feed bs) ≡ true → Split number at (b ∷ bs)
both number at b bs e =
    let parts = and_parts (eqb b 13) (starts_with_feed bs) e in
    let ends : ends_line b ≡ true = ap (λ t. t || eqb b 10) parts.0 in
    let here : at + 0 ≡ at = omega arith in
    rw (e, ends, e) (feed number at bs parts.1 ∙ ap (λ k. plain_line number at k ∷ lines_from (number + 1) (at + 2) (drop 1 bs)) (sym here))

single : (number at b : ℕ) (bs : List ℕ) → (eqb b 13 && starts_with_feed bs) ≡ false → ends_line b ≡ true → Split number at (b ∷ bs)
single number at b bs e ends =
    let here : at + 0 ≡ at = omega arith in
    rw (e, ends, e, ends) (ap (λ k. plain_line number at k ∷ lines_from (number + 1) (at + 1) bs) (sym here))

one_on : (number at b n : ℕ) (bs : List ℕ) → lines_from (number + 1) (at + 1 + n) (drop n bs) ≡ on number at (n + 1) (b ∷ bs)
one_on number at b n bs =
    let place : at + 1 + n ≡ at + (n + 1) = omega arith in
    let count : suc n ≡ n + 1 = omega arith in
    ap (λ k. lines_from (number + 1) k (drop n bs)) place ∙ ap (λ m. lines_from (number + 1) (at + (n + 1)) (drop m (b ∷ bs))) count

text_behind : (number at b : ℕ) (bs : List ℕ) → behind number (at + 1) bs ≡ on number at (line_length bs + 1 + end_length (drop (line_length bs + 1) (b ∷ bs))) (b ∷ bs)
text_behind number at b bs =
    let n = line_length bs in
    let count : suc (line_length bs) ≡ line_length bs + 1 = omega arith in
    let same : end_length (drop (line_length bs) bs) ≡ end_length (drop (line_length bs + 1) (b ∷ bs)) = ap (λ m. end_length (drop m (b ∷ bs))) count in
    let sum : line_length bs + end_length (drop (line_length bs) bs) + 1 ≡ line_length bs + 1 + end_length (drop (line_length bs + 1) (b ∷ bs)) = omega arith in
    one_on number at b (line_length bs + end_length (drop (line_length bs) bs)) bs ∙ ap (λ m. on number at m (b ∷ bs)) sum

text_more : (number at b : ℕ) (bs : List ℕ) → Split number (at + 1) bs → begun_at number at (lines_from number (at + 1) bs) ≡ plain_line number at (at + (line_length bs + 1)) ∷ on number at (line_length bs + 1 + end_length (drop (line_length bs + 1) (b ∷ bs))) (b ∷ bs)
text_more number at b bs split =
    let place : at + 1 + line_length bs ≡ at + (line_length bs + 1) = omega arith in
    ap (begun_at number at) split ∙ (ap (λ k. plain_line number at k ∷ behind number (at + 1) bs) place
    ∙ ap (λ ls. plain_line number at (at + (line_length bs + 1)) ∷ ls) (text_behind number at b bs))

text_byte : (number at b : ℕ) (bs : List ℕ) → (eqb b 13 && starts_with_feed bs) ≡ false → ends_line b ≡ false → Split number (at + 1) bs ⊎ (bs ≡ []) → Split number at (b ∷ bs)
text_byte number at b bs e ends (inl split) = rw (e, ends) (text_more number at b bs split)
text_byte number at b bs e ends (inr none) = rw (e, ends, none) refl

rest_or_none : (number at : ℕ) (bs : List ℕ) → Split number at bs ⊎ (bs ≡ [])
rest_or_none number at [] = inr refl
rest_or_none number at (b ∷ bs) =
    inl (elim (eqb b 13 && starts_with_feed bs) as (λ t. (eqb b 13 && starts_with_feed bs) ≡ t → Split number at (b ∷ bs)) [
      | true ↦ λ e. both number at b bs e
      | false ↦ λ e. elim (ends_line b) as (λ u. ends_line b ≡ u → Split number at (b ∷ bs)) [
        | true ↦ λ ends. single number at b bs e ends
        | false ↦ λ ends. text_byte number at b bs e ends (rest_or_none number (at + 1) bs)
      ] refl
    ] refl)

-- a text with a byte has a first line, and then those of the rest
pub lines_from-first : (number at : ℕ) (bs : List ℕ) → 0 < length bs → Split number at bs
lines_from-first number at bs h = elim (rest_or_none number at bs) [ inl split ↦ split | inr none ↦ absurd (omega (arith, ap length none)) ]

abbrev pub shown : List ℕ → List Line → List Line
shown bytes lines = map (marked bytes) (up_to_empty lines)

-- the next line has a text
pub section_more : (bytes : List ℕ) (number start n e : ℕ) (front : List Line) → start < length bytes → line_length (drop start bytes) ≡ n → 0 < n → end_length (drop n (drop start bytes)) ≡ e
    → front ++ shown bytes (lines_from number start (drop start bytes)) ≡ section bytes
    → (front ++ marked bytes (plain_line number start (start + n)) ∷ []) ++ shown bytes (lines_from (number + 1) (start + (n + e)) (drop (start + (n + e)) bytes)) ≡ section bytes
section_more bytes number start n e front h is_n some is_e told =
    let split = lines_from-first number start (drop start bytes) (rw length-drop (omega arith)) in
    let line = plain_line number start (start + n) in
    let first : lines_from number start (drop start bytes) ≡ plain_line number start (start + n) ∷ lines_from (number + 1) (start + (n + e)) (drop (start + (n + e)) bytes) =
    split ∙ rw (is_n, is_e, drop-drop (n + e) start bytes) refl in
    let has : is_filled (plain_line number start (start + n)) ≡ true = lt-ltb start (start + n) (omega arith) in
    let taken : shown bytes (plain_line number start (start + n) ∷ lines_from (number + 1) (start + (n + e)) (drop (start + (n + e)) bytes))
    ≡ marked bytes (plain_line number start (start + n)) ∷ shown bytes (lines_from (number + 1) (start + (n + e)) (drop (start + (n + e)) bytes)) = rw has refl in
    append_assoc front (marked bytes (plain_line number start (start + n)) ∷ []) (shown bytes (lines_from (number + 1) (start + (n + e)) (drop (start + (n + e)) bytes)))
    ∙ (ap (λ ls. front ++ ls) (sym taken ∙ sym (ap (shown bytes) first)) ∙ told)

-- the next line has none
pub section_ends : (bytes : List ℕ) (number start : ℕ) (front : List Line) → start < length bytes → line_length (drop start bytes) ≡ 0
    → front ++ shown bytes (lines_from number start (drop start bytes)) ≡ section bytes → front ≡ section bytes
section_ends bytes number start front h none told =
    let split = lines_from-first number start (drop start bytes) (rw length-drop (omega arith)) in
    let has : is_filled (plain_line number start (start + line_length (drop start bytes))) ≡ false = le-ltb start (start + line_length (drop start bytes)) (omega arith) in
    let taken : shown bytes (first_and_rest number start (drop start bytes)) ≡ [] = rw has refl in
    sym (append-nil front) ∙ (ap (λ ls. front ++ ls) (sym taken ∙ sym (ap (shown bytes) split)) ∙ told)

-- no line is left
pub section_at_end : (bytes : List ℕ) (number start : ℕ) (front : List Line) → length bytes ≤ start
    → front ++ shown bytes (lines_from number start (drop start bytes)) ≡ section bytes → front ≡ section bytes
section_at_end bytes number start front h told =
    let none : drop start bytes ≡ [] = drop_all start bytes h in
    sym (append-nil front) ∙ (ap (λ ls. front ++ ls) (sym (ap (λ xs. shown bytes (lines_from number start xs)) none)) ∙ told)
