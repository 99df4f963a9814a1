use Rattle.scr_laws.proofs.TurnCallbacks.{are_told_apart}
use Rattle.scr_laws.proofs.callbacks.note_living.Goals as goal

pub returns : goal.returns
returns c = are_told_apart
