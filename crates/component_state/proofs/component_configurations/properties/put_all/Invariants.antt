use Rattle.std.proofs.Common.{◌≡◌, drop}
use Rattle.prop_map.specs.Maps.{merge}
use Rattle.component_state.proofs.component_configurations.properties.put_all.Given as goal

abbrev pub invariant-loop-property : goal.invariant-loop-property
invariant-loop-property l = merge l.properties (drop l.property-index l.property-items) ≡ merge l.fn.properties l.property-items
