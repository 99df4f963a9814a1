-- What is chosen from a place on.
use Rattle.std.proofs.Common.{◌≡◌, ◌<◌, ◌≤◌, ap, sym, arith, ℕ, List, [], ◌∷◌, false, cond, Some}
use Rattle.std.specs.Prelude.{◌==◌, find}
use Rattle.std.specs.Cmp.{both_ways}
use Rattle.std.specs.Option.{option_map_or}
use Rattle.std.proofs.lemmas.Bool.{eqb-true, false≢true}
use Rattle.component_state.specs.declared.origin.Choice.{Choice}
use Rattle.component_state.specs.Reasons.{choice_at}

apart : (m n : ℕ) → (m ≡ n → ⊥) → (m == n) ≡ false
apart m n different = both_ways (m == n) false (λ e. absurd (different (eqb-true m n e))) (λ e. absurd (false≢true e))

-- what is chosen for a place stands behind a choice for an earlier one
pub behind : (c : Choice) (cs : List Choice) (place later : ℕ) → c.reference < place → place ≤ later → choice_at cs later ≡ choice_at (c ∷ cs) later
behind c cs place later before from =
    ap (λ b. option_map_or (λ (d : Choice). d.services) (cond b (Some c) (find (λ (d : Choice). d.reference == later) cs)) [])
    (sym (apart c.reference later (λ same. omega (arith, same, before, from))))
