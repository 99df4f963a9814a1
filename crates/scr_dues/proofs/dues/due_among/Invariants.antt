use Rattle.std.proofs.Common.{◌≡◌, drop}
use Rattle.scr_dues.specs.FirstDues.{due_among}
use Rattle.scr_dues.proofs.dues.due_among.Given as goal

abbrev pub invariant-loop-instance : goal.invariant-loop-instance
invariant-loop-instance l = due_among l.world l.instances ≡ due_among l.world (drop l.instance-index l.instances)
