use Rattle.std.proofs.Common.{◌≡◌, ◌++◌}
use Rattle.level_order.specs.Uses.{all_uses}
use Rattle.level_order.specs.Ways.{least_path}
use Rattle.level_order.proofs.least_path.push_least_path.Given as goal

abbrev pub invariant-loop-left : goal.invariant-loop-left
invariant-loop-left l = l.fn.path.items ++ least_path (all_uses l.descriptions) l.steps l.from l.count ≡ l.path.items ++ least_path (all_uses l.descriptions) l.steps l.at l.left

abbrev pub decreases-loop-left : goal.decreases-loop-left
decreases-loop-left l = l.left
