use Rattle.bundle_wiring.proofs.MissingNeeds.{missing}
use Rattle.bundle_wiring.proofs.laws.note_missing_need.Goals as goal

pub returns : goal.returns
returns c = missing
