use Rattle.std.proofs.Common.{◌≡◌, ◌++◌, drop, flat_map}
use Rattle.wb_routes.specs.Listing.{bad_context, read_contexts}
use Rattle.wb_routes.proofs.routes.read_contexts.Given as goal

abbrev pub invariant-loop-row : goal.invariant-loop-row
invariant-loop-row l = record {
  read : l.read.items ++ read_contexts (drop l.row-index l.rows) ≡ read_contexts l.rows;
  failed : l.failures.items ++ flat_map bad_context (drop l.row-index l.rows) ≡ l.initial.failures.items ++ flat_map bad_context l.rows;
}
