use Rattle.scr_laws.proofs.Described.{legal_in_order}
use Rattle.scr_laws.proofs.open.note_legal.Goals as goal

pub returns : goal.returns
returns c = legal_in_order
