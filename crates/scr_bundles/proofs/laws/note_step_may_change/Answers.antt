use Rattle.scr_bundles.proofs.Coming.{step_may_change}
use Rattle.scr_bundles.proofs.laws.note_step_may_change.Goals as goal

pub returns : goal.returns
returns c = step_may_change
