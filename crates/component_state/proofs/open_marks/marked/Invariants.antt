use Rattle.std.proofs.Common.{◌≡◌, ◌++◌, drop}
use Rattle.component_state.specs.Inside.OpenMarks.{marked}
use Rattle.component_state.specs.Inside.Ready.{configurations_open}
use Rattle.component_state.proofs.open_marks.marked.Given as goal

abbrev pub invariant-loop-at : goal.invariant-loop-at
invariant-loop-at l = marked (configurations_open l.periods) l.marks ≡ l.found.items ++ marked (configurations_open (drop l.at l.periods)) (drop l.at l.marks)
