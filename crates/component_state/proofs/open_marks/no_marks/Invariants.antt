use Rattle.std.proofs.Common.{◌≡◌, ℕ, List, [], length}
use Rattle.component_state.specs.Inside.OpenMarks.{marked}
use Rattle.component_state.proofs.open_marks.no_marks.Given as goal

abbrev pub invariant-loop-at : goal.invariant-loop-at
invariant-loop-at l = record {
  long : length l.marks.items ≡ l.at;
  unset : (numbers : List ℕ) → marked numbers l.marks.items ≡ [];
}
