use Rattle.std.proofs.Common.{take}
use Rattle.std.specs.List.{list_any}
use Rattle.level_order.specs.Links.{comes_from}
use Rattle.level_order.specs.Spread.{AreMarked, IsKept}
use Rattle.level_order.proofs.spread.Search.spread.Given as goal

abbrev pub invariant-loop-place : goal.invariant-loop-place
invariant-loop-place l = IsKept l.back l.self.seen.items l.self.steps.items l.self.found.items l.count × AreMarked l.count (λ p. list_any (λ to. comes_from l.back to p) (take l.place-index l.from)) l.fn.self.steps.items l.self.steps.items
