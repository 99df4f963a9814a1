use Rattle.scr_laws.proofs.CreatedLaws.{created_before, entries_of}
use Rattle.scr_laws.proofs.slots.note_created.Goals as goal

pub returns-clause-entries : goal.returns-clause-entries
returns-clause-entries c = entries_of

pub returns-clause-earlier : goal.returns-clause-earlier
returns-clause-earlier c = created_before
