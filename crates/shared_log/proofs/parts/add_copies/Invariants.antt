use Rattle.std.proofs.Common.{◌≡◌, ◌++◌, take}
use Rattle.shared_log.proofs.parts.add_copies.Given as goal

abbrev pub invariant-loop-item : goal.invariant-loop-item
invariant-loop-item g l = l.items.items ≡ l.fn.items.items ++ take l.item-index l.part
