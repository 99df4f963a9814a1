use Rattle.scr_laws.proofs.NothingShut.{nothing_shut}
use Rattle.scr_laws.proofs.gates.note_nothing_shut.Goals as goal

pub returns : goal.returns
returns c = nothing_shut
