-- The levels that are found are those that are computed, and where none are found some description has none.
use Rattle.std.proofs.Common.{◌≡◌, ℕ, List, [], ◌∷◌, length, ap, sym, ◌∙◌, refl, true, false, arith, inl, inr}
use Rattle.std.specs.Prelude.{◌==◌}
use Rattle.std.proofs.lemmas.Bool.{and_from, cases_Bool, eq-eqb}
use Rattle.std.proofs.lemmas.Grind.{same_number_lists}
use Rattle.std.proofs.lemmas.List.{length-map}
use Rattle.component_dto.specs.declared.description.Description.{Description}
use Rattle.component_state.proofs.Ranks.{provider_lower}
use Rattle.level_order.specs.Levels.{AreLevels, IsAcyclic, level_from}
use Rattle.level_order.proofs.LeastLemmas.{levels_least}
use Rattle.scr_laws.proofs.Levels.{ranked_right, tested_right}
use Rattle.scr_world.specs.Levels.{has_levels, levels_of, same_numbers}

same_self : (xs : List ℕ) → same_numbers xs xs ≡ true
same_self [] = refl
same_self (x ∷ xs) = and_from (x == x) (same_numbers xs xs) (eq-eqb x x refl) (same_self xs)

computed_right : (ds : List Description) (levels : List ℕ) → AreLevels ds levels → AreLevels ds (levels_of ds)
computed_right ds levels are = ranked_right ds (λ d. level_from d ds levels) (λ d e hd he is. provider_lower ds levels are d e he is)

long : (ds : List Description) (levels : List ℕ) → AreLevels ds levels → length levels ≡ length ds
long ds levels are = ap length are ∙ length-map ds (λ d. level_from d ds levels)

-- where there are levels, they are those that are computed
pub levels_are : (ds : List Description) (levels : List ℕ) → AreLevels ds levels → levels ≡ levels_of ds
levels_are ds levels are =
    let computed : AreLevels ds (levels_of ds) = computed_right ds levels are in
    let these = levels_least ds levels are in
    let those = levels_least ds (levels_of ds) computed in
    same_number_lists levels (levels_of ds) (long ds levels are ∙ sym (long ds (levels_of ds) computed)) (λ i within. omega (arith, these.least (levels_of ds) those.above i, those.least levels these.above i))

pub has_these : (ds : List Description) (levels : List ℕ) → AreLevels ds levels → has_levels ds ≡ true
has_these ds levels are = ap (λ w. same_numbers w (levels_of ds)) (sym (computed_right ds levels are)) ∙ same_self (levels_of ds)

pub has_none : (ds : List Description) → ¬ IsAcyclic ds → has_levels ds ≡ false
has_none ds cyclic = elim (cases_Bool (has_levels ds)) [
  | inl has ↦ absurd (cyclic (levels_of ds, tested_right ds has))
  | inr none ↦ none
]
