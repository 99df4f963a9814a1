use Rattle.std.proofs.Common.{◌≡◌, ◌++◌, drop, flat_map}
use Rattle.wb_routes.specs.Listing.{failure_of}
use Rattle.wb_routes.proofs.failures.push_unowned.Given as goal

abbrev pub invariant-loop-text : goal.invariant-loop-text
invariant-loop-text l = l.failures.items ++ flat_map (failure_of l.tables l.servlet) (drop l.text-index l.text-items) ≡ l.initial.failures.items ++ flat_map (failure_of l.tables l.servlet) l.servlet.patterns
