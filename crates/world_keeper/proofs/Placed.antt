-- An item put before the first one that it goes before.
use Rattle.std.proofs.Common.{◌≡◌, ◌<◌, ◌+◌, ℕ, zero, suc, List, [], ◌∷◌, ◌++◌, length, Bool, true, false, cond, Option, Some, None, refl, ap, sym, ◌∙◌, arith}
use Rattle.std.proofs.lemmas.List.Recursion.{is_position_or_len}
use Rattle.std.specs.List.{position_or_len}
use Rattle.std.specs.Prelude.{insert, position, nat_lt}
use Rattle.std.proofs.lemmas.Bool.Decides.{nat_tests}
use Rattle.prop_map.specs.Words.{insert_by}

module _ {X : Type 0} (before : X → X → Bool) (x : X) where
  place : List X → ℕ
  place [] = 0
  place (y ∷ ys) = cond (before x y) 0 (suc (place ys))

  place_is : (xs : List X) → place xs ≡ position_or_len (before x) xs
  unfolding place
  place_is xs = is_position_or_len place (before x) refl (λ y ys. ap (cond (before x y) 0) {x = suc (place ys)} {y = 1 + place ys} (omega arith)) xs

  at_place : (xs : List X) → insert xs (place xs) x ≡ insert_by before x xs
  unfolding place
  at_place [] = refl
  at_place (y ∷ ys) = by_test (before x y) (at_place ys) where
    by_test : (b : Bool) → insert ys (place ys) x ≡ insert_by before x ys → insert (y ∷ ys) (cond b 0 (suc (place ys))) x ≡ cond b (x ∷ y ∷ ys) (y ∷ insert_by before x ys)
    by_test true more = refl
    by_test false more = ap (λ zs. y ∷ zs) more

  none_before : (xs : List X) → place xs ≡ length xs → xs ++ x ∷ [] ≡ insert_by before x xs
  unfolding place
  none_before [] e = refl
  none_before (y ∷ ys) e = by_test (before x y) e (none_before ys) where
    by_test : (b : Bool) → cond b 0 (suc (place ys)) ≡ length (y ∷ ys) → (place ys ≡ length ys → ys ++ x ∷ [] ≡ insert_by before x ys)
        → y ∷ (ys ++ x ∷ []) ≡ cond b (x ∷ y ∷ ys) (y ∷ insert_by before x ys)
    by_test true h more = absurd (omega (arith, h))
    by_test false h more = ap (λ zs. y ∷ zs) (more (omega (arith, h)))

  within : (xs : List X) → place xs < length xs + 1
  unfolding place
  within [] = omega arith
  within (y ∷ ys) = by_test (before x y) (within ys) where
    by_test : (b : Bool) → place ys < length ys + 1 → cond b 0 (suc (place ys)) < length (y ∷ ys) + 1
    by_test true less = omega arith
    by_test false less = omega (arith, less)

  pub put_before : (xs : List X) (k : ℕ) → Some k ≡ position (before x) xs → insert xs k x ≡ insert_by before x xs
  put_before xs k e = ap (λ i. insert xs i x) (by_test (nat_lt (position_or_len (before x) xs) (length xs)) e ∙ sym (place_is xs)) ∙ at_place xs where
    by_test : (b : Bool) → Some k ≡ cond b (Some (position_or_len (before x) xs)) None → k ≡ position_or_len (before x) xs
    by_test true h = cc
    by_test false h = absurd cc

  pub put_last : (xs : List X) → None ≡ position (before x) xs → xs ++ x ∷ [] ≡ insert_by before x xs
  put_last xs e = none_before xs (by_test (nat_lt (position_or_len (before x) xs) (length xs)) refl e) where
    by_test : (b : Bool) → nat_lt (position_or_len (before x) xs) (length xs) ≡ b → None ≡ cond b (Some (position_or_len (before x) xs)) None → place xs ≡ length xs
    by_test true t h = absurd cc
    by_test false t h = let low = within xs in let same = place_is xs in let not_low : position_or_len (before x) xs < length xs → ⊥ = grind (arith, nat_tests, t) in omega (arith, low, same, not_low)
