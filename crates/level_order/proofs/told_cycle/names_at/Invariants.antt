use Rattle.std.proofs.Common.{◌≡◌, ◌++◌, drop}
use Rattle.level_order.specs.Cycles.{names_at}
use Rattle.level_order.proofs.told_cycle.names_at.Given as goal

abbrev pub invariant-loop-place : goal.invariant-loop-place
invariant-loop-place l = names_at l.descriptions l.places ≡ l.names.items ++ names_at l.descriptions (drop l.place-index l.places)
