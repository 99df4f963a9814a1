use Rattle.std.proofs.Common.{◌≡◌, drop}
use Rattle.level_order.specs.Lowest.{lower, lowest_in}
use Rattle.level_order.proofs.least_path.lowest_in.Given as goal

abbrev pub invariant-loop-place : goal.invariant-loop-place
invariant-loop-place l = lowest_in l.steps l.left l.places ≡ lower l.lowest (lowest_in l.steps l.left (drop l.place-index l.places))
