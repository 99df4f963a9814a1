use Rattle.std.proofs.Common.{◌≡◌, ◌++◌, drop}
use Rattle.std.specs.Prelude.{map}
use Rattle.wb_routes.specs.Listing.{bad_pattern}
use Rattle.wb_routes.proofs.failures.push_faulty.Given as goal

abbrev pub invariant-loop-text : goal.invariant-loop-text
invariant-loop-text l = l.failures.items ++ map (bad_pattern l.servlet) (drop l.text-index l.text-items) ≡ l.initial.failures.items ++ map (bad_pattern l.servlet) l.servlet.faulty
