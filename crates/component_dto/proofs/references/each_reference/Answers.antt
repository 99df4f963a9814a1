use Rattle.component_dto.proofs.EachRead.{so_far_more}
use Rattle.component_dto.proofs.references.each_reference.Goals as goal

pub loop-item-preserved : goal.loop-item-preserved
loop-item-preserved c = rw c.in_ok-push.ensures.items
    (so_far_more c.loop-item.invariant c.item-item.result c.in_ok-reference_fields.field-0 c.loop-item-test.true c.item-item.is c.in_ok-reference_fields.ensures)
