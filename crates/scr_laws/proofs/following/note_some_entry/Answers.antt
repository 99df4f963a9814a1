use Rattle.scr_laws.proofs.SomeEntries.{some_entry}
use Rattle.scr_laws.proofs.following.note_some_entry.Goals as goal

pub returns : goal.returns
returns c = some_entry
