use Rattle.scr_promises.proofs.EndingLaws.{end_in_time}
use Rattle.scr_promises.proofs.endings.note_endings.Goals as goal

pub returns : goal.returns
returns c = end_in_time
