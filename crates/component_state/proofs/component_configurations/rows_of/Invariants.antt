use Rattle.std.proofs.Common.{◌≡◌, map, take}
use Rattle.component_state.specs.ComponentRows.{component_row}
use Rattle.component_state.proofs.component_configurations.rows_of.Given as goal

abbrev pub invariant-loop-component : goal.invariant-loop-component
invariant-loop-component l = l.rows.items ≡ map component_row (take l.component-index l.components)
