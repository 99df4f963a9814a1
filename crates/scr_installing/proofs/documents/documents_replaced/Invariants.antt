use Rattle.std.proofs.Common.{◌≡◌, take}
use Rattle.std.specs.Prelude.{map}
use Rattle.scr_world.specs.Tables.{replaced}
use Rattle.scr_installing.proofs.documents.documents_replaced.Given as goal

abbrev pub invariant-loop-contents : goal.invariant-loop-contents
invariant-loop-contents l = l.after.items ≡ map (replaced l.bundle l.doc) (take l.contents-index l.documents)
