use Rattle.scr_promises.proofs.RightLaws.{quiet_is_right}
use Rattle.scr_promises.proofs.rest.note_quiet_is_right.Goals as goal

pub returns : goal.returns
returns c = quiet_is_right
