use Rattle.std.proofs.Common.{◌≡◌, drop}
use Rattle.level_order.specs.Lowest.{lower, lowest_over}
use Rattle.level_order.proofs.least_path.lowest_over.Given as goal

abbrev pub invariant-loop-interface : goal.invariant-loop-interface
invariant-loop-interface l = lowest_over l.onward l.steps l.left l.interfaces ≡ lower l.lowest (lowest_over l.onward l.steps l.left (drop l.interface-index l.interfaces))
