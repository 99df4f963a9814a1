use Rattle.std.proofs.Common.{◌≡◌, ◌≤◌, ◌++◌, ℕ, drop, map}
use Rattle.component_state.specs.Reasons.{choice_at}
use Rattle.prop_map.specs.Words.{with_places}
use Rattle.scr_dues.specs.LeanViews.{staying_reference}
use Rattle.scr_dues.proofs.lean_views.staying_references.Given as goal

abbrev pub invariant-loop-at : goal.invariant-loop-at
invariant-loop-at l = (l.found.items ++ map (staying_reference l.world l.instance) (with_places l.at (drop l.at l.references)) ≡ map (staying_reference l.world l.instance) (with_places 0 l.references))
    × ((later : ℕ) → l.at ≤ later → choice_at l.choices later ≡ choice_at l.instance.origin.chosen later)
