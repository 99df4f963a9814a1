use Rattle.std.proofs.Common.{◌≡◌, drop}
use Rattle.std.specs.List.{list_any}
use Rattle.prop_map.specs.Words.{with_places}
use Rattle.component_state.specs.Inside.ByNeeds.{chose_outdated_by, is_wrong}
use Rattle.component_state.specs.Passes.{services_in}
use Rattle.component_state.proofs.reasons.chose_outdated.Given as goal

abbrev pub invariant-loop-place : goal.invariant-loop-place
invariant-loop-place l =
    chose_outdated_by (services_in l.stage l.open_now) l.needs l.choices
    ≡ list_any (is_wrong (services_in l.stage l.open_now) l.choices) (with_places l.place (drop l.place l.needs))
