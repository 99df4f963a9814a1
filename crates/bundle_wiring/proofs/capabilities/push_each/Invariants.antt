use Rattle.std.proofs.Common.{◌≡◌, ◌++◌, drop}
use Rattle.std.specs.Prelude.{map}
use Rattle.bundle_wiring.specs.Wirings.{requirement_of}
use Rattle.bundle_wiring.proofs.capabilities.push_each.Given as goal

abbrev pub invariant-loop-path : goal.invariant-loop-path
invariant-loop-path l = l.needs.items ++ map (requirement_of l.clause l.filter) (drop l.path-index l.path-items) ≡ l.initial.needs.items ++ map (requirement_of l.clause l.filter) l.clause.paths
