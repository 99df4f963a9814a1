use Rattle.wiring_reader.proofs.OneTelling.{one_bundle_wiring}
use Rattle.wiring_reader.proofs.laws.note_one_bundle_wiring.Goals as goal

pub returns : goal.returns
returns c = one_bundle_wiring
