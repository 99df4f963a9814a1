use Rattle.scr_laws.proofs.SameSteps.{same_steps}
use Rattle.scr_laws.proofs.journals.note_same_steps.Goals as goal

pub returns : goal.returns
returns c = same_steps
