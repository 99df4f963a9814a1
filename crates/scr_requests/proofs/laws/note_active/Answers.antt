use Rattle.scr_requests.proofs.Reaches.{reached_is_active}
use Rattle.scr_requests.proofs.laws.note_active.Goals as goal

pub returns : goal.returns
returns c = reached_is_active
