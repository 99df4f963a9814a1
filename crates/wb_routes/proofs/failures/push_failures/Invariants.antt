use Rattle.std.proofs.Common.{◌≡◌, ◌++◌, drop, flat_map}
use Rattle.wb_routes.specs.Listing.{failures_of}
use Rattle.wb_routes.proofs.failures.push_failures.Given as goal

abbrev pub invariant-loop-servlet : goal.invariant-loop-servlet
invariant-loop-servlet l = l.failures.items ++ flat_map (failures_of l.tables) (drop l.servlet-index l.servlets) ≡ l.initial.failures.items ++ flat_map (failures_of l.tables) l.servlets
