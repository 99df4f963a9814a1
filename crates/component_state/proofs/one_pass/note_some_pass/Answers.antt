use Rattle.component_state.proofs.Passing.{has_passed}
use Rattle.component_state.specs.Inside.Runs.{passed_all}
use Rattle.component_state.proofs.one_pass.note_some_pass.Goals as goal

pub returns : goal.returns
returns c = λ s ready. (passed_all s, has_passed s ready)
