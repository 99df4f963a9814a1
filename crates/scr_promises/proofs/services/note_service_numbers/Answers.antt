use Rattle.scr_promises.proofs.ServiceLaws.{have_own_numbers}
use Rattle.scr_promises.proofs.services.note_service_numbers.Goals as goal

pub returns : goal.returns
returns c = have_own_numbers
