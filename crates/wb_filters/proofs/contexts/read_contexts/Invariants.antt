use Rattle.std.proofs.Common.{◌≡◌, ◌++◌, drop}
use Rattle.wb_routes.specs.Listing.{read_contexts}
use Rattle.wb_filters.proofs.contexts.read_contexts.Given as goal

abbrev pub invariant-loop-row : goal.invariant-loop-row
invariant-loop-row l = l.read.items ++ read_contexts (drop l.row-index l.rows) ≡ read_contexts l.rows
