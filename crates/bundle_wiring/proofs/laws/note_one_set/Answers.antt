use Rattle.bundle_wiring.proofs.MissingNeeds.{one_set}
use Rattle.bundle_wiring.proofs.laws.note_one_set.Goals as goal

pub returns : goal.returns
returns c = one_set
