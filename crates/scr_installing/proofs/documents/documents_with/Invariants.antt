use Rattle.std.proofs.Common.{◌≡◌, take}
use Rattle.scr_installing.proofs.documents.documents_with.Given as goal

abbrev pub invariant-loop-contents : goal.invariant-loop-contents
invariant-loop-contents l = l.after.items ≡ take l.contents-index l.documents
