use Rattle.std.proofs.Common.{◌≡◌, ◌++◌, drop}
use Rattle.std.specs.Prelude.{map}
use Rattle.wb_routes.specs.Listing.{row_of}
use Rattle.wb_routes.proofs.listing.push_patterns.Given as goal

abbrev pub invariant-loop-pattern : goal.invariant-loop-pattern
invariant-loop-pattern l = l.rows.items ++ map (row_of l.context l.servlet) (drop l.pattern-index l.pattern-items) ≡ l.initial.rows.items ++ map (row_of l.context l.servlet) l.servlet.patterns
