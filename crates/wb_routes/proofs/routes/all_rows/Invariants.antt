use Rattle.std.proofs.Common.{◌≡◌, ◌++◌, drop}
use Rattle.wb_routes.specs.Listing.{all_rows}
use Rattle.wb_routes.proofs.routes.all_rows.Given as goal

abbrev pub invariant-loop-table : goal.invariant-loop-table
invariant-loop-table l = l.rows.items ++ all_rows (drop l.table-index l.tables) ≡ all_rows l.tables
