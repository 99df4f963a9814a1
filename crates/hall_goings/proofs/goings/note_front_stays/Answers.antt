use Rattle.hall_goings.proofs.Chains.{front_stays, longer}
use Rattle.hall_goings.proofs.goings.note_front_stays.Goals as goal

pub returns-clause-longer : goal.returns-clause-longer
returns-clause-longer g c = λ before after own went. longer before after own went

pub returns-clause-same : goal.returns-clause-same
returns-clause-same g c = λ before after own front went low. front_stays before after own front went low
