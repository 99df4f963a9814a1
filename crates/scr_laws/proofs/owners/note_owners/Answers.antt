use Rattle.scr_laws.proofs.OwnerLaws.{active_owners}
use Rattle.scr_laws.proofs.owners.note_owners.Goals as goal

pub returns : goal.returns
returns c = active_owners
