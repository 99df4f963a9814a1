use Rattle.std.proofs.Common.{◌≤◌, ◌++◌, ◌∷◌, length}
use Rattle.shared_map.specs.Parts.{AreParts, rows_of}
use Rattle.shared_map.specs.Rows.{AreByKey, HaveSameRows}
use Rattle.shared_map.proofs.parts.merged_with.Given as goal

abbrev pub invariant-loop-unmerged : goal.invariant-loop-unmerged
invariant-loop-unmerged g l = record {
  within : length l.unmerged ≤ length l.parts;
  parts : AreParts l.unmerged;
  order : AreByKey l.rows.items;
  same : HaveSameRows (l.rows.items ++ rows_of l.unmerged) (l.fn.row ∷ rows_of l.parts);
}

abbrev pub decreases-loop-unmerged : goal.decreases-loop-unmerged
decreases-loop-unmerged g l = length l.unmerged
