use Rattle.scr_laws.proofs.Histories.{legal_is_asked}
use Rattle.scr_laws.proofs.asked.note_legal_is_asked.Goals as goal

pub returns : goal.returns
returns c = legal_is_asked
