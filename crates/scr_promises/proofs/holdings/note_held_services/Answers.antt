use Rattle.scr_promises.proofs.KnownLaws.{hold_known}
use Rattle.scr_promises.proofs.holdings.note_held_services.Goals as goal

pub returns : goal.returns
returns c = hold_known
