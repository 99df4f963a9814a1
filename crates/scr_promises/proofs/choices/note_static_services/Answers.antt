use Rattle.scr_promises.proofs.StaticLaws.{keeps_static_services}
use Rattle.scr_promises.proofs.choices.note_static_services.Goals as goal

pub returns : goal.returns
returns c = keeps_static_services
