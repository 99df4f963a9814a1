use Rattle.std.proofs.Common.{◌≡◌, ◌++◌, take, drop, length}
use Rattle.component_state.specs.Inside.OpenMarks.{marked_now}
use Rattle.component_state.proofs.open_marks.mark_each.Given as goal

abbrev pub invariant-loop-at : goal.invariant-loop-at
invariant-loop-at l = record {
  whole : take l.at l.marks ++ marked_now l.configuration (drop l.at l.periods) (drop l.at l.marks) ≡ marked_now l.configuration l.periods l.fn.marks;
  long : length l.marks ≡ length l.periods;
}
