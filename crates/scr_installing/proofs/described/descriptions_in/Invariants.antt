use Rattle.std.proofs.Common.{◌≡◌, take}
use Rattle.scr_world.specs.Tables.{descriptions_of}
use Rattle.scr_installing.proofs.described.descriptions_in.Given as goal

abbrev pub invariant-loop-contents : goal.invariant-loop-contents
invariant-loop-contents l = l.all.items ≡ descriptions_of (take l.contents-index l.documents)
