use Rattle.std.proofs.Common.{◌≡◌, ◌++◌, drop, length}
use Rattle.std.specs.Prelude.{map}
use Rattle.bundle_doc.specs.Inside.{placed}
use Rattle.bundle_doc.proofs.entries_by_end.keys_of.Given as goal

abbrev pub invariant-loop-text : goal.invariant-loop-text
invariant-loop-text l = map (λ k. (k.0.items, k.1)) l.keys.items ++ placed l.end (length l.keys.items) (drop l.text-index l.texts) ≡ placed l.end 0 l.texts
