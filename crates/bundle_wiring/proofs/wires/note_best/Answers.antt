use Rattle.bundle_wiring.proofs.BestOffers.{no_best, some_best}
use Rattle.bundle_wiring.proofs.wires.note_best.Goals as goal

pub returns : goal.returns
returns c = record { some = some_best; none = no_best }
