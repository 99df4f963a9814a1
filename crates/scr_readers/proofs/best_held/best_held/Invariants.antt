use Rattle.std.proofs.Common.{take}
use Rattle.prop_map.specs.Words.{has}
use Rattle.scr_readers.specs.Inside.{IsBestBy, better_by}
use Rattle.scr_readers.proofs.best_held.best_held.Given as goal

abbrev pub invariant-loop-service : goal.invariant-loop-service
invariant-loop-service l = IsBestBy (better_by l.world) (has (take l.service-index l.held)) l.best
