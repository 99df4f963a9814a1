use Rattle.scr_laws.proofs.Asking.{asking_asks, asking_stays, forgetting_stays}
use Rattle.scr_laws.proofs.asked.note_asking_twice.Goals as goal

pub returns-clause-asks : goal.returns-clause-asks
returns-clause-asks c = asking_asks

pub returns-clause-stays : goal.returns-clause-stays
returns-clause-stays c = asking_stays

pub returns-clause-forgets : goal.returns-clause-forgets
returns-clause-forgets c = forgetting_stays
