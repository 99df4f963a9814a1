use Rattle.std.proofs.Common.{◌≡◌, take}
use Rattle.bundle_life.proofs.rows.BundleRowsCopies.copy.Given as goal

abbrev pub invariant-loop-row : goal.invariant-loop-row
invariant-loop-row l = l.list.items ≡ take l.row-index l.rows
