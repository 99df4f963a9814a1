use Rattle.scr_laws.proofs.OpenServices.{open_services}
use Rattle.scr_laws.proofs.services.note_services.Goals as goal

pub returns : goal.returns
returns c = open_services
