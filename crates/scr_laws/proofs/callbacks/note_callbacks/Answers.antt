use Rattle.scr_laws.proofs.TurnCallbacks.{have_their_turns}
use Rattle.scr_laws.proofs.callbacks.note_callbacks.Goals as goal

pub returns : goal.returns
returns c = have_their_turns
