use Rattle.scr_promises.proofs.ServiceLaws.{stay_services}
use Rattle.scr_promises.proofs.services.note_services_stay.Goals as goal

pub returns : goal.returns
returns c = stay_services
