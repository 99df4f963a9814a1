use Rattle.scr_laws.proofs.OpensFirst.{opens_first}
use Rattle.scr_laws.proofs.entries.note_opens_first.Goals as goal

pub returns : goal.returns
returns c = opens_first
