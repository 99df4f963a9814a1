use Rattle.std.proofs.Common.{◌≡◌}
use Rattle.std.specs.Prelude.{map}
use Rattle.wb_routes.specs.Listing.{table_of}
use Rattle.wb_routes.proofs.listing.tables_of.Given as goal

abbrev pub invariant-loop-context : goal.invariant-loop-context
invariant-loop-context l = l.tables.items ≡ map (table_of l.servlets) l.yielded
