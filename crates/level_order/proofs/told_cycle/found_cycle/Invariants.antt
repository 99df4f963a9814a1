use Rattle.std.proofs.Common.{ℕ, ◌<◌}
use Rattle.level_order.specs.Uses.{all_uses}
use Rattle.level_order.specs.Ways.{OnNone}
use Rattle.level_order.proofs.told_cycle.found_cycle.Given as goal

abbrev pub invariant-loop-place : goal.invariant-loop-place
invariant-loop-place l = (place : ℕ) → place < l.place → OnNone (all_uses l.descriptions) place
