use Rattle.std.proofs.Common.{◌≡◌, take}
use Rattle.std.specs.Prelude.{◌==◌, filter, not}
use Rattle.scr_world.specs.declared.contents.Contents.{Contents}
use Rattle.scr_installing.proofs.documents.documents_without.Given as goal

abbrev pub invariant-loop-contents : goal.invariant-loop-contents
invariant-loop-contents l = l.after.items ≡ filter (λ (c : Contents). not (c.bundle == l.bundle)) (take l.contents-index l.documents)
