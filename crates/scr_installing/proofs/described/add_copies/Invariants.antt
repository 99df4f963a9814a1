use Rattle.std.proofs.Common.{◌≡◌, ◌++◌, take}
use Rattle.scr_installing.proofs.described.add_copies.Given as goal

abbrev pub invariant-loop-description : goal.invariant-loop-description
invariant-loop-description l = l.all.items ≡ l.initial.all.items ++ take l.description-index l.more
