use Rattle.wiring_reader.proofs.OneTelling.{resolved}
use Rattle.wiring_reader.proofs.laws.note_resolved.Goals as goal

pub returns : goal.returns
returns c = resolved
