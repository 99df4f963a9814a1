use Rattle.std.proofs.Common.{◌≡◌, ◌≤◌, ◌+◌, drop, length, vec_capacity, vec_len}
use Rattle.use_counts.specs.Refusals.{AreUses}
use Rattle.use_counts.specs.Undoing.{with_rows}
use Rattle.use_counts.proofs.changes.put_each.Given as goal

abbrev pub invariant-loop-row : goal.invariant-loop-row
invariant-loop-row l = record {
  rest : with_rows (drop l.row-index l.others) l.rows.items ≡ with_rows l.others l.fn.rows.items;
  uses : AreUses l.rows.items;
  room : vec_len l.rows + length (drop l.row-index l.others) ≤ vec_capacity l.rows;
}
