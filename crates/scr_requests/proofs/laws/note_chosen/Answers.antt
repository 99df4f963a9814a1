use Rattle.scr_requests.proofs.Reaches.{held_servlet}
use Rattle.scr_requests.proofs.laws.note_chosen.Goals as goal

pub returns : goal.returns
returns c = held_servlet
