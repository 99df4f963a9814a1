use Rattle.std.proofs.Common.{sym}
use Rattle.scr_dues.proofs.dues.due_among.Goals as goal

pub due_for-requires : goal.due_for-requires
due_for-requires c = c.requires c.instance-item.result (c.loop-instance.instance-index, c.loop-instance-test.true, sym c.instance-item.is)
