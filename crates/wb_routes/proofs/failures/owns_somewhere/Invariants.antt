use Rattle.std.proofs.Common.{◌≡◌, drop}
use Rattle.std.specs.List.{list_any}
use Rattle.wb_routes.specs.Listing.{owns}
use Rattle.wb_routes.proofs.failures.owns_somewhere.Given as goal

abbrev pub invariant-loop-table : goal.invariant-loop-table
invariant-loop-table l = list_any (owns l.servlet l.text) l.tables ≡ list_any (owns l.servlet l.text) (drop l.table-index l.tables)
