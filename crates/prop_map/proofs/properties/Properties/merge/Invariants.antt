use Rattle.std.proofs.Common.{◌≡◌, drop}
use Rattle.prop_map.specs.Maps.{merge}
use Rattle.prop_map.proofs.properties.Properties.merge.Given as goal

abbrev pub invariant-loop-property : goal.invariant-loop-property
invariant-loop-property l = merge l.both (drop l.property-index l.property-items) ≡ merge l.self l.property-items
