use Rattle.bundle_wiring.proofs.WiredNeeds.{wired_candidate}
use Rattle.bundle_wiring.proofs.laws.note_wired_to.Goals as goal

pub returns : goal.returns
returns c = wired_candidate
