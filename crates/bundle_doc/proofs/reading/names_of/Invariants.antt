use Rattle.std.proofs.Common.{◌≡◌, ◌++◌, drop}
use Rattle.std.specs.Prelude.{map}
use Rattle.bundle_doc.specs.Documents.{names_of}
use Rattle.bundle_doc.proofs.reading.names_of.Given as goal

abbrev pub invariant-loop-description : goal.invariant-loop-description
invariant-loop-description l = map (λ n. n.now) l.names.items ++ names_of (drop l.description-index l.descriptions) ≡ names_of l.descriptions
