-- A table without the service of a number that it has is shorter.
use Rattle.std.proofs.Common.{◌≡◌, ◌<◌, ◌≤◌, ℕ, List, [], ◌∷◌, ap, sym, ◌∙◌, refl, cond, arith, Bool, true, false, length, Some, None}
use Rattle.std.specs.Prelude.{filter, not}
use Rattle.service_registry.specs.declared.row.ServiceRow.{ServiceRow}
use Rattle.service_registry.specs.Registries.{has_number, row_of}

abbrev others : ℕ → List ServiceRow → List ServiceRow
others n rows = filter (λ (r : ServiceRow). not (has_number n r)) rows

no_longer : (n : ℕ) (rows : List ServiceRow) → length (others n rows) ≤ length rows
no_longer n [] = omega arith
no_longer n (r ∷ rows) = by_test (has_number n r) refl (no_longer n rows) where
  by_test : (b : Bool) → has_number n r ≡ b → length (others n rows) ≤ length rows
      → length (cond (not (has_number n r)) (r ∷ others n rows) (others n rows)) ≤ length (r ∷ rows)
  by_test true t low = omega (arith, low, ap (λ b. length (cond (not b) (r ∷ others n rows) (others n rows))) t)
  by_test false t low = omega (arith, low, ap (λ b. length (cond (not b) (r ∷ others n rows) (others n rows))) t)

pub shorter : (n : ℕ) (rows : List ServiceRow) (row : ServiceRow) → row_of rows n ≡ Some row → length (others n rows) < length rows
shorter n [] row e = absurd (none e) where
  none : None ≡ Some row → ⊥
  none h = cc
shorter n (r ∷ rows) row e = by_test (has_number n r) refl (no_longer n rows) (λ f. shorter n rows row f) where
  by_test : (b : Bool) → has_number n r ≡ b → length (others n rows) ≤ length rows → (row_of rows n ≡ Some row → length (others n rows) < length rows)
      → length (cond (not (has_number n r)) (r ∷ others n rows) (others n rows)) < length (r ∷ rows)
  by_test true t low more = omega (arith, low, ap (λ b. length (cond (not b) (r ∷ others n rows) (others n rows))) t)
  by_test false t low more =
      omega (arith, more (sym (ap (λ b. cond b (Some r) (row_of rows n)) t) ∙ e), ap (λ b. length (cond (not b) (r ∷ others n rows) (others n rows))) t)
