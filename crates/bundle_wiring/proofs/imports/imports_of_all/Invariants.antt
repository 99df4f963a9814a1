use Rattle.std.proofs.Common.{◌≡◌, [], drop}
use Rattle.bundle_wiring.specs.Wirings.{imports_after}
use Rattle.bundle_wiring.proofs.imports.imports_of_all.Given as goal

abbrev pub invariant-loop-clause : goal.invariant-loop-clause
invariant-loop-clause l = imports_after l.packages l.needs.items (drop l.clause-index l.clauses) ≡ imports_after [] [] l.clauses
