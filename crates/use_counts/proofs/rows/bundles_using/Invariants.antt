use Rattle.std.proofs.Common.{◌≡◌, take}
use Rattle.use_counts.specs.Uses.{bundles_using}
use Rattle.use_counts.proofs.rows.bundles_using.Given as goal

abbrev pub invariant-loop-row : goal.invariant-loop-row
invariant-loop-row l = l.bundles.items ≡ bundles_using l.service (take l.row-index l.rows)
