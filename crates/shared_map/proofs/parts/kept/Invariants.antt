use Rattle.std.proofs.Common.{◌≤◌, length}
use Rattle.shared_map.proofs.parts.kept.Given as goal

abbrev pub invariant-loop-kept : goal.invariant-loop-kept
invariant-loop-kept g l = length l.kept ≤ length l.parts

abbrev pub decreases-loop-kept : goal.decreases-loop-kept
decreases-loop-kept g l = length l.kept
