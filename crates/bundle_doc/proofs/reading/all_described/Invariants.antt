use Rattle.std.specs.Prelude.{option_map}
use Rattle.serde_json.specs.View.{view}
use Rattle.bundle_doc.specs.Documents.{described}
use Rattle.bundle_doc.proofs.EachOf.{SoFar}
use Rattle.bundle_doc.proofs.reading.all_described.Given as goal

abbrev pub invariant-loop-name : goal.invariant-loop-name
invariant-loop-name l = SoFar (described (option_map (λ v. view v.now) l.components)) l.names l.found.items l.name-index
