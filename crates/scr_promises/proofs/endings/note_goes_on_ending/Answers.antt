use Rattle.scr_promises.proofs.EndingLaws.{go_on_ending}
use Rattle.scr_promises.proofs.endings.note_goes_on_ending.Goals as goal

pub returns : goal.returns
returns c = go_on_ending
