use Rattle.scr_consequences.proofs.ListenerNumbers.{numbered_listeners}
use Rattle.scr_consequences.proofs.telling.note_listeners.Goals as goal

pub returns : goal.returns
returns c = numbered_listeners
