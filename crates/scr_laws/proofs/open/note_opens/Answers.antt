use Rattle.scr_laws.proofs.Opening.{opens_by_registered, opens_each, satisfied_is}
use Rattle.scr_laws.proofs.open.note_opens.Goals as goal

pub returns-clause-numbers : goal.returns-clause-numbers
returns-clause-numbers c = opens_by_registered

pub returns-clause-each : goal.returns-clause-each
returns-clause-each c = opens_each

pub returns-clause-satisfied : goal.returns-clause-satisfied
returns-clause-satisfied c = satisfied_is
