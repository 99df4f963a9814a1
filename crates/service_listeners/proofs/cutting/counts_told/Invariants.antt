use Rattle.std.proofs.Common.{◌≡◌, map, take}
use Rattle.service_listeners.specs.Saves.{count_told}
use Rattle.service_listeners.proofs.cutting.counts_told.Given as goal

abbrev pub invariant-loop-row : goal.invariant-loop-row
invariant-loop-row l = l.counts.items ≡ map count_told (take l.row-index l.rows)
