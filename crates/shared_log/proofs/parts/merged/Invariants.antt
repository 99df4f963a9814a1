use Rattle.std.proofs.Common.{◌≡◌, take}
use Rattle.shared_log.specs.Parts.{joined}
use Rattle.shared_log.proofs.parts.merged.Given as goal

abbrev pub invariant-loop-part : goal.invariant-loop-part
invariant-loop-part g l = l.items.items ≡ joined (take l.part-index l.parts)
