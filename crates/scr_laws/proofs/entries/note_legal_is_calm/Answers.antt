use Rattle.scr_laws.proofs.StillLaw.{legal_calm}
use Rattle.scr_laws.proofs.entries.note_legal_is_calm.Goals as goal

pub returns : goal.returns
returns c = legal_calm
