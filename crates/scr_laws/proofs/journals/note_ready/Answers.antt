use Rattle.scr_laws.proofs.ReadyStages.{legal_ready}
use Rattle.scr_laws.proofs.journals.note_ready.Goals as goal

pub returns : goal.returns
returns c = legal_ready
