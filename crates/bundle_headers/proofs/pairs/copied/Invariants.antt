use Rattle.std.proofs.Common.{◌≡◌, take}
use Rattle.bundle_headers.proofs.pairs.copied.Given as goal

abbrev pub invariant-loop-item : goal.invariant-loop-item
invariant-loop-item l = l.copied.items ≡ take l.item-index l.items
