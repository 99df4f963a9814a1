use Rattle.wiring_reader.proofs.OneTelling.{one_wiring}
use Rattle.wiring_reader.proofs.laws.note_one_wiring.Goals as goal

pub returns : goal.returns
returns c = one_wiring
