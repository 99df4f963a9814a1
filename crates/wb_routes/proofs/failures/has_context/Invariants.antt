use Rattle.std.proofs.Common.{◌≡◌, drop}
use Rattle.std.specs.List.{list_any}
use Rattle.wb_routes.specs.Listing.{is_selected}
use Rattle.wb_routes.proofs.failures.has_context.Given as goal

abbrev pub invariant-loop-table : goal.invariant-loop-table
invariant-loop-table l = list_any (is_selected l.servlet) l.tables ≡ list_any (is_selected l.servlet) (drop l.table-index l.tables)
