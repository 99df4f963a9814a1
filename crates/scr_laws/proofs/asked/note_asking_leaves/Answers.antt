use Rattle.scr_laws.proofs.Histories.{asking_leaves}
use Rattle.scr_laws.proofs.asked.note_asking_leaves.Goals as goal

pub returns : goal.returns
returns c = asking_leaves
