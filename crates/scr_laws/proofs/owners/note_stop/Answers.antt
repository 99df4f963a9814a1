use Rattle.scr_laws.proofs.StopLaws.{is_stopped}
use Rattle.scr_laws.proofs.owners.note_stop.Goals as goal

pub returns : goal.returns
returns c = is_stopped
