use Rattle.component_dto.specs.References.{reference_fields}
use Rattle.component_dto.proofs.EachRead.{SoFar}
use Rattle.component_dto.proofs.references.each_reference.Given as goal

abbrev pub invariant-loop-item : goal.invariant-loop-item
invariant-loop-item l = SoFar reference_fields l.items l.found.items l.item-index
