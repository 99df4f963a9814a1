use Rattle.hall_goings.proofs.Chains.{own_stand}
use Rattle.hall_goings.proofs.goings.note_own_stand.Goals as goal

pub returns : goal.returns
returns g c = λ before after own went. own_stand before after own went
