use Rattle.scr_laws.proofs.Calm.{legal_is_behind}
use Rattle.scr_laws.proofs.entries.note_legal_is_behind.Goals as goal

pub returns : goal.returns
returns c = legal_is_behind
