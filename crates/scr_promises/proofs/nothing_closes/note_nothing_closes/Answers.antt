use Rattle.scr_promises.proofs.NothingCloses.{nothing_closes}
use Rattle.scr_promises.proofs.nothing_closes.note_nothing_closes.Goals as goal

pub returns : goal.returns
returns c = nothing_closes
