use Rattle.scr_callees.proofs.Reaching.{reach_active}
use Rattle.scr_callees.proofs.laws.note_callees.Goals as goal

pub returns : goal.returns
returns c = reach_active
