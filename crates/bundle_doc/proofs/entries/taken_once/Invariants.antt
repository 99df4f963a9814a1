use Rattle.std.proofs.Common.{◌≡◌, [], drop}
use Rattle.bundle_doc.specs.Entries.{taken_behind}
use Rattle.bundle_doc.proofs.entries.taken_once.Given as goal

abbrev pub invariant-loop-name : goal.invariant-loop-name
invariant-loop-name l = taken_behind l.entries l.found (drop l.name-index l.names) ≡ taken_behind l.entries [] l.names
