use Rattle.std.proofs.Common.{◌+◌, ◌++◌, length}
use Rattle.shared_map.specs.Merging.{AreMerging}
use Rattle.shared_map.proofs.merging.merged.Given as goal

abbrev pub invariant-loop-row : goal.invariant-loop-row
invariant-loop-row g l = AreMerging l.rows.items l.old l.new (l.newer ++ l.older)

abbrev pub decreases-loop-row : goal.decreases-loop-row
decreases-loop-row g l = length l.old + length l.new
