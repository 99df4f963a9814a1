use Rattle.scr_laws.proofs.StoppingLaws.{stops_for_instances}
use Rattle.scr_laws.proofs.stopping.note_stopping.Goals as goal

pub returns : goal.returns
returns c = stops_for_instances
