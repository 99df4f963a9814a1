use Rattle.serde_json.specs.Find.{as_bool}
use Rattle.prop_map.proofs.Each.{SoFar}
use Rattle.prop_map.proofs.json_properties.flags.Given as goal

abbrev pub invariant-loop-item : goal.invariant-loop-item
invariant-loop-item l = SoFar as_bool l.items l.found.items l.item-index
