use Rattle.scr_laws.proofs.Histories.{entry_keeps}
use Rattle.scr_laws.proofs.asked.note_entry_keeps_asked.Goals as goal

pub returns : goal.returns
returns c = entry_keeps
