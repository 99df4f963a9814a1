use Rattle.bundle_doc.proofs.EachOf.{so_far_more}
use Rattle.bundle_doc.proofs.reading.all_described.Goals as goal

pub loop-name-preserved : goal.loop-name-preserved
loop-name-preserved c = rw c.in_ok-push.ensures.items
    (so_far_more c.loop-name.invariant c.name-item.result c.in_ok-described.field-0 c.loop-name-test.true c.name-item.is c.in_ok-described.ensures)
