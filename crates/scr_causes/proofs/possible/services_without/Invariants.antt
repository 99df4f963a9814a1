use Rattle.std.proofs.Common.{◌≡◌, map, not, take}
use Rattle.std.specs.Prelude.{filter}
use Rattle.component_state.specs.declared.component.Component.{Component}
use Rattle.component_state.specs.Components.{existing}
use Rattle.component_state.specs.Periods.{is_open}
use Rattle.scr_causes.specs.DirectCauses.{possible_service}
use Rattle.scr_causes.proofs.possible.services_without.Given as goal

abbrev pub invariant-loop-component : goal.invariant-loop-component
invariant-loop-component l = l.rows.items ≡ map possible_service (filter (λ (c : Component). not (is_open l.opened c.number)) (existing (take l.component-index l.components)))
