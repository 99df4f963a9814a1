use Rattle.std.proofs.Common.{◌≤◌}
use Rattle.level_order.specs.Heights.{AreSound}
use Rattle.level_order.specs.Ways.{known_count}
use Rattle.level_order.proofs.heights.heights_of.Given as goal

abbrev pub invariant-loop-round : goal.invariant-loop-round
invariant-loop-round l = AreSound l.first l.links l.heights.items × (l._round ≤ known_count l.heights.items)
