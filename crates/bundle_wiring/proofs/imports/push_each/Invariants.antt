use Rattle.std.proofs.Common.{◌≡◌, ◌++◌, drop}
use Rattle.std.specs.Prelude.{map}
use Rattle.bundle_wiring.specs.Wirings.{import_of}
use Rattle.bundle_wiring.proofs.imports.push_each.Given as goal

abbrev pub invariant-loop-path : goal.invariant-loop-path
invariant-loop-path l = l.needs.items ++ map (import_of l.clause l.range) (drop l.path-index l.path-items) ≡ l.initial.needs.items ++ map (import_of l.clause l.range) l.clause.paths
