use Rattle.scr_promises.proofs.MinimumLaws.{keep_minimum}
use Rattle.scr_promises.proofs.minimum.note_minimum.Goals as goal

pub returns : goal.returns
returns c = keep_minimum
