use Rattle.scr_promises.proofs.LevelLaws.{drained_end, last_generation}
use Rattle.scr_promises.proofs.slots.note_active.Goals as goal

pub returns-clause-last : goal.returns-clause-last
returns-clause-last c = last_generation

pub returns-clause-drained : goal.returns-clause-drained
returns-clause-drained c = drained_end
