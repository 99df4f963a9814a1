use Rattle.scr_laws.proofs.Sounding.{legal_sound}
use Rattle.scr_laws.proofs.journals.note_sound.Goals as goal

pub returns : goal.returns
returns c = legal_sound
