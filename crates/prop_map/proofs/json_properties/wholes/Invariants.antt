use Rattle.prop_map.specs.JsonProperties.{whole}
use Rattle.prop_map.proofs.Each.{SoFar}
use Rattle.prop_map.proofs.json_properties.wholes.Given as goal

abbrev pub invariant-loop-item : goal.invariant-loop-item
invariant-loop-item l = SoFar whole l.items l.found.items l.item-index
