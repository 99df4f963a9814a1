use Rattle.scr_laws.proofs.StoppingBundles.{none_wait_for_nothing}
use Rattle.scr_laws.proofs.entries.note_waiting.Goals as goal

pub returns : goal.returns
returns c = none_wait_for_nothing
