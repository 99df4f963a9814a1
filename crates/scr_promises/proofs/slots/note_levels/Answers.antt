use Rattle.scr_promises.proofs.LevelLaws.{moves_levels}
use Rattle.scr_promises.proofs.slots.note_levels.Goals as goal

pub returns : goal.returns
returns c = moves_levels
