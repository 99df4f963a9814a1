-- To change the row of a number is to write at its place.
use Rattle.std.proofs.Common.{◌≡◌, ◌<◌, ℕ, zero, suc, List, [], ◌∷◌, ap, ◌∙◌, refl, cond, arith, length, slice_set}
use Rattle.std.specs.Prelude.{map, slice_index_or}
use Rattle.std.specs.List.{Contains}
use Rattle.std.proofs.lemmas.Bool.{eq-eqb, ne_eqb}
use Rattle.prop_map.specs.Tables.{IsAscending, changed}

module _ {X : Type 0} (number_of : X → ℕ) (f : X → X) (number : ℕ) where
  in_first : (x : X) (xs : List X) → Contains (x ∷ xs) x
  in_first x xs = (0, omega arith, refl)

  in_rest : (y : X) (xs : List X) (x : X) → Contains xs x → Contains (y ∷ xs) x
  in_rest y xs x h = (suc h.0, omega (arith, h.1), h.2)

  reads_same : (ys : List X) (k : ℕ) (a b : X) → k < length ys → slice_index_or ys k a ≡ slice_index_or ys k b
  reads_same [] k a b within = absurd (omega (arith, within))
  reads_same (y ∷ ys) zero a b within = refl
  reads_same (y ∷ ys) (suc k) a b within = reads_same ys k a b (omega (arith, within))

  stays : (x : X) → (number_of x ≡ number → ⊥) → changed number_of f number x ≡ x
  stays x other = ap (λ b. cond b (f x) x) (ne_eqb (number_of x) number other)

  -- where each row has a higher number, none changes
  pub above_stay : (xs : List X) → ((x : X) → Contains xs x → number < number_of x) → map (changed number_of f number) xs ≡ xs
  above_stay [] above = refl
  above_stay (x ∷ xs) above =
      ap (λ y. y ∷ map (changed number_of f number) xs) (stays x (λ same. omega (arith, same, above x (in_first x xs))))
      ∙ ap (λ ys. x ∷ ys) (above_stay xs (λ y h. above y (in_rest x xs y h)))

  pub changed_in_place : (place : ℕ) (xs : List X) (x : X) → IsAscending number_of xs → place < length xs → number_of (slice_index_or xs place x) ≡ number → map (changed number_of f number) xs ≡ slice_set xs place (f (slice_index_or xs place x))
  changed_in_place place [] x order within is = absurd (omega (arith, within))
  changed_in_place zero (y ∷ ys) x order within is =
      ap (λ b. cond b (f y) y ∷ map (changed number_of f number) ys) (eq-eqb (number_of y) number is)
      ∙ ap (λ zs. f y ∷ zs) (above_stay ys (λ z h. omega (arith, order.0 z h, is)))
  changed_in_place (suc k) (y ∷ ys) x order within is =
      ap (λ z. z ∷ map (changed number_of f number) ys) (stays y (λ same. omega (arith, same, is, order.0 (slice_index_or ys k x) (k, omega (arith, within), reads_same ys k (slice_index_or ys k x) x (omega (arith, within))))))
      ∙ ap (λ zs. y ∷ zs) (changed_in_place k ys x order.1 (omega (arith, within)) is)
