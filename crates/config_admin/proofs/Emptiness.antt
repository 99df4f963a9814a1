-- Tests on texts and lists that refusals stand on.
use Rattle.std.proofs.Common.{◌≡◌, List, [], ◌∷◌, refl, cond, arith, Bool, true, false, length}
use Rattle.std.proofs.lemmas.Bool.{ne_eqb}
use Rattle.std.specs.List.{list_any}
use Rattle.std.specs.Prelude.{◌==◌, ◌||◌, filter, not}
use Rattle.prop_map.specs.Words.{is_empty}

pub no_items : {X : Type 0} (xs : List X) → (length xs == 0) ≡ is_empty xs
no_items [] = refl
no_items (x ∷ xs) = ne_eqb (length (x ∷ xs)) 0 (λ e. omega (arith, e))

-- some item passes a test exactly where the filter leaves one
pub any_left : {X : Type 0} (test : X → Bool) (xs : List X) → list_any test xs ≡ not (is_empty (filter test xs))
any_left test [] = refl
any_left test (x ∷ xs) = by_test (test x) (any_left test xs) where
  by_test : (b : Bool) → list_any test xs ≡ not (is_empty (filter test xs)) → (b || list_any test xs) ≡ not (is_empty (cond b (x ∷ filter test xs) (filter test xs)))
  by_test true e = refl
  by_test false e = e
