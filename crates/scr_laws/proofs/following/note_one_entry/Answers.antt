use Rattle.scr_laws.proofs.SameSteps.{one_entry}
use Rattle.scr_laws.proofs.following.note_one_entry.Goals as goal

pub returns : goal.returns
returns c = one_entry
