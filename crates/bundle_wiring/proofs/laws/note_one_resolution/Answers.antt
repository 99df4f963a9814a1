use Rattle.bundle_wiring.proofs.MissingNeeds.{one_resolution}
use Rattle.bundle_wiring.proofs.laws.note_one_resolution.Goals as goal

pub returns : goal.returns
returns c = one_resolution
