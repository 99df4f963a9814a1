-- Trimming, from either end.
use Rattle.std.proofs.Common.{◌≡◌, ℕ, ◌+◌, ◌-◌, ◌<◌, ◌≤◌, List, [], ◌∷◌, ◌++◌, length, Bool, true, false, eqb, refl, sym, ap, ◌∙◌, arith, take, get_or, ◌&&◌}
use Rattle.std.proofs.lemmas.List.{take_more}
use Rattle.std.proofs.lemmas.List.Folds.{list_all-append}
use Rattle.bundle_headers.specs.Blanks.{is_blank, trim_end}

pub is_blank-push : (xs : List ℕ) (b : ℕ) → is_blank (xs ++ b ∷ []) ≡ (is_blank xs && eqb b 32)
is_blank-push xs b = list_all-append (λ c. eqb c 32) xs (b ∷ []) ∙ ap (λ t. is_blank xs && t) (elim (eqb b 32) as (λ t. (t && true) ≡ t) [ true ↦ refl | false ↦ refl ])

and_true : (t : Bool) → (t && true) ≡ t
and_true true = refl
and_true false = refl

and_false : (t : Bool) → (t && false) ≡ false
and_false true = refl
and_false false = refl

trim_end_blank : (xs : List ℕ) → trim_end (xs ++ 32 ∷ []) ≡ trim_end xs
trim_end_blank [] = refl
trim_end_blank (b ∷ bs) =
    let same : is_blank (bs ++ 32 ∷ []) ≡ is_blank bs = is_blank-push bs 32 ∙ and_true (is_blank bs) in
    rw (same, trim_end_blank bs) refl

trim_end_other : (xs : List ℕ) (b : ℕ) → eqb b 32 ≡ false → trim_end (xs ++ b ∷ []) ≡ xs ++ b ∷ []
trim_end_other [] b e = rw e refl
trim_end_other (c ∷ xs) b e =
    let other : is_blank (xs ++ b ∷ []) ≡ false = is_blank-push xs b ∙ (ap (λ t. is_blank xs && t) e ∙ and_false (is_blank xs)) in
    rw (other, and_false (eqb c 32), trim_end_other xs b e) refl

pub trim_end-shorter : (xs : List ℕ) (n : ℕ) → 0 < n → n ≤ length xs → get_or xs (n - 1) 0 ≡ 32 → trim_end (take (n - 1) xs) ≡ trim_end (take n xs)
trim_end-shorter xs n h within e =
    let here : n - 1 + 1 ≡ n = omega arith in
    sym (trim_end_blank (take (n - 1) xs))
    ∙ ap trim_end (ap (λ b. take (n - 1) xs ++ b ∷ []) (sym e) ∙ (sym (take_more xs (n - 1) 0 (omega arith)) ∙ ap (λ m. take m xs) here))

pub trim_end-same : (xs : List ℕ) (n : ℕ) → 0 < n → n ≤ length xs → eqb (get_or xs (n - 1) 0) 32 ≡ false → trim_end (take n xs) ≡ take n xs
trim_end-same xs n h within e =
    let here : n - 1 + 1 ≡ n = omega arith in
    let split : take n xs ≡ take (n - 1) xs ++ get_or xs (n - 1) 0 ∷ [] = ap (λ m. take m xs) (sym here) ∙ take_more xs (n - 1) 0 (omega arith) in
    ap trim_end split ∙ (trim_end_other (take (n - 1) xs) (get_or xs (n - 1) 0) e ∙ sym split)
