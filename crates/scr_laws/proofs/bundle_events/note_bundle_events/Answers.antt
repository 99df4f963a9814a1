use Rattle.scr_laws.proofs.BundleEventLaws.{has_lived}
use Rattle.scr_laws.proofs.bundle_events.note_bundle_events.Goals as goal

pub returns : goal.returns
returns c = has_lived
