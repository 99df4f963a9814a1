use Rattle.component_state.proofs.OpenIsScratch.{open_is_scratch}
use Rattle.component_state.proofs.one_pass.note_one_pass.Goals as goal

pub returns-clause-scratch : goal.returns-clause-scratch
returns-clause-scratch c = open_is_scratch
