use Rattle.serde_json.specs.Find.{as_str}
use Rattle.prop_map.proofs.Each.{SoFar}
use Rattle.component_dto.proofs.fields.each_text.Given as goal

abbrev pub invariant-loop-item : goal.invariant-loop-item
invariant-loop-item l = SoFar as_str l.items l.found.items l.item-index
