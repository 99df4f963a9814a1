use Rattle.std.proofs.Common.{◌≡◌, take}
use Rattle.shared_log.proofs.parts.shared.Given as goal

abbrev pub invariant-loop-part : goal.invariant-loop-part
invariant-loop-part g l = l.shares.items ≡ take l.part-index l.parts
