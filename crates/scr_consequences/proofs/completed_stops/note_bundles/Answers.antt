use Rattle.scr_consequences.proofs.BundleNumbers.{by_step, numbered_bundles}
use Rattle.scr_consequences.proofs.completed_stops.note_bundles.Goals as goal

pub returns : goal.returns
returns c = record { world = numbered_bundles; step = by_step }
