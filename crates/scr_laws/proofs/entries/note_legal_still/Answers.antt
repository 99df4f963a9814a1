use Rattle.scr_laws.proofs.StillLaw.{legal_still}
use Rattle.scr_laws.proofs.entries.note_legal_still.Goals as goal

pub returns : goal.returns
returns c = legal_still
