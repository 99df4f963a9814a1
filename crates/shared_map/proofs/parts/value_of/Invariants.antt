use Rattle.std.proofs.Common.{◌≡◌, ◌≤◌, length}
use Rattle.shared_map.specs.Parts.{AreParts, rows_of}
use Rattle.shared_map.specs.Rows.{value_of}
use Rattle.shared_map.proofs.parts.value_of.Given as goal

abbrev pub invariant-loop-left : goal.invariant-loop-left
invariant-loop-left g l = record {
  within : length l.left ≤ length l.parts;
  parts : AreParts l.left;
  same : value_of l.key (rows_of l.left) ≡ value_of l.key (rows_of l.parts);
}

abbrev pub decreases-loop-left : goal.decreases-loop-left
decreases-loop-left g l = length l.left
