use Rattle.scr_laws.proofs.Opening.{scratch_by_registered}
use Rattle.scr_laws.proofs.open.note_scratch.Goals as goal

pub returns : goal.returns
returns c = scratch_by_registered
