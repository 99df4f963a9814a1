-- Where a text may be cut.
use Rattle.std.proofs.Common.{◌≡◌, ℕ, ◌+◌, ◌<◌, List, [], ◌∷◌, ◌++◌, length, true, false, cond, eqb, eqb-true, refl, sym, ap, ◌∙◌, arith, drop, get_or, subst, IsUtf8, append_assoc}
use Rattle.std.proofs.lemmas.Bool.{and_parts}
use Rattle.std.proofs.lemmas.List.{length-append, take_at, drop_at, append-nil}
use Rattle.std.proofs.lemmas.Str.{IsCharBoundary-before_ascii, IsCharBoundary-after_ascii, IsUtf8-take, IsUtf8-drop}
use Rattle.bundle_headers.specs.Blanks.{is_blank, trim_start, trim_end, without_blanks}

at_seam : (xs ys : List ℕ) (b : ℕ) → get_or (xs ++ b ∷ ys) (length xs) 0 ≡ b
at_seam [] ys b = refl
at_seam (x ∷ xs) ys b = at_seam xs ys b

seam_within : (xs ys : List ℕ) (b : ℕ) → length xs < length (xs ++ b ∷ ys)
seam_within xs ys b = rw length-append (omega arith)

pub cut_before : (xs ys : List ℕ) (b : ℕ) → b < 128 → IsUtf8 (xs ++ b ∷ ys) → IsUtf8 xs
cut_before xs ys b small u =
    let low : get_or (xs ++ b ∷ ys) (length xs) 0 < 128 = subst (λ n. n < 128) (sym (at_seam xs ys b)) small in
    subst IsUtf8 (take_at xs (b ∷ ys) (length xs) refl)
    (IsUtf8-take (xs ++ b ∷ ys) (length xs) u (IsCharBoundary-before_ascii (xs ++ b ∷ ys) (length xs) (seam_within xs ys b) low))

pub cut_after : (xs ys : List ℕ) (b : ℕ) → b < 128 → IsUtf8 (xs ++ b ∷ ys) → IsUtf8 ys
cut_after xs ys b small u =
    let low : get_or (xs ++ b ∷ ys) (length xs) 0 < 128 = subst (λ n. n < 128) (sym (at_seam xs ys b)) small in
    let rest : drop (length xs + 1) (xs ++ b ∷ ys) ≡ ys =
    ap (λ zs. drop (length xs + 1) zs) (sym (append_assoc xs (b ∷ []) ys)) ∙ drop_at (xs ++ b ∷ []) ys (length xs + 1) (length-append xs (b ∷ [])) in
    subst IsUtf8 rest (IsUtf8-drop (xs ++ b ∷ ys) (length xs + 1) u (IsCharBoundary-after_ascii (xs ++ b ∷ ys) (length xs) u (seam_within xs ys b) low))

start_text : (bs : List ℕ) → IsUtf8 bs → IsUtf8 (trim_start bs)
start_text [] u = u
start_text (b ∷ bs) u = elim (eqb b 32) as (λ t. eqb b 32 ≡ t → IsUtf8 (cond t (trim_start bs) (b ∷ bs))) [
  | true ↦ λ e. start_text bs (cut_after [] bs 32 (omega arith) (subst (λ c. IsUtf8 (c ∷ bs)) (eqb-true b 32 e) u))
  | false ↦ λ e. u
] refl

-- the blanks that are cut off
end_split : (bs : List ℕ) → (blanks : List ℕ) × (is_blank blanks ≡ true) × (bs ≡ trim_end bs ++ blanks)
end_split [] = ([], refl, refl)
end_split (b ∷ bs) = elim (is_blank (b ∷ bs)) as (λ t. is_blank (b ∷ bs) ≡ t → (blanks : List ℕ) × (is_blank blanks ≡ true) × (b ∷ bs ≡ cond t [] (b ∷ trim_end bs) ++ blanks)) [
  | true ↦ λ e. (b ∷ bs, e, refl)
  | false ↦ λ e. let more = end_split bs in (more.0, more.1, ap (λ xs. b ∷ xs) more.2)
] refl

end_text_by : (front blanks : List ℕ) → is_blank blanks ≡ true → IsUtf8 (front ++ blanks) → IsUtf8 front
end_text_by front [] e u = subst IsUtf8 (append-nil front) u
end_text_by front (b ∷ blanks) e u =
    let here = eqb-true b 32 (and_parts (eqb b 32) (is_blank blanks) e).0 in
    cut_before front blanks b (omega arith) u

pub text_without_blanks : (bs : List ℕ) → IsUtf8 bs → IsUtf8 (without_blanks bs)
text_without_blanks bs u =
    let split = end_split (trim_start bs) in
    end_text_by (without_blanks bs) split.0 split.1 (subst IsUtf8 split.2 (start_text bs u))
