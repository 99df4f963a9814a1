use Rattle.scr_world.specs.Lists.{world_of}
use Rattle.scr_laws.proofs.Described.{legal_in_order}
use Rattle.scr_laws.proofs.Legal.{legal_scratch}
use Rattle.scr_laws.proofs.Opening.{opens_by_registered, opens_each, satisfied_is}
use Rattle.scr_laws.proofs.open.note_open.Goals as goal

pub returns-clause-numbers : goal.returns-clause-numbers
returns-clause-numbers c = λ limit past legal. opens_by_registered (world_of past) (legal_in_order limit past legal) (legal_scratch limit past legal)

pub returns-clause-each : goal.returns-clause-each
returns-clause-each c = λ limit past legal. opens_each (world_of past) (legal_in_order limit past legal) (legal_scratch limit past legal)

pub returns-clause-satisfied : goal.returns-clause-satisfied
returns-clause-satisfied c = λ limit past legal. satisfied_is (world_of past) (legal_in_order limit past legal) (legal_scratch limit past legal)
