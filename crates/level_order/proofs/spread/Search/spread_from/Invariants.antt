use Rattle.std.proofs.Common.{[], take, get_or}
use Rattle.std.specs.List.{list_any}
use Rattle.level_order.specs.Ways.{has}
use Rattle.level_order.specs.Spread.{AreMarked, IsKept}
use Rattle.level_order.proofs.spread.Search.spread_from.Given as goal

abbrev pub invariant-loop-interface : goal.invariant-loop-interface
invariant-loop-interface l = IsKept l.back l.self.seen.items l.self.steps.items l.self.found.items l.count × AreMarked l.count (λ p. list_any (λ x. has (get_or l.back x []) p) (take l.interface-index l.interfaces)) l.fn.self.steps.items l.self.steps.items
