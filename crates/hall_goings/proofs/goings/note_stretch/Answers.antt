use Rattle.hall_goings.proofs.Chains.{went_in_stretch}
use Rattle.hall_goings.proofs.goings.note_stretch.Goals as goal

pub returns : goal.returns
returns g c = λ before after began log es kept apart goes is same. went_in_stretch before after began log es kept apart.0 goes is same
