use Rattle.std.proofs.Common.{◌≡◌, take}
use Rattle.level_order.specs.Ways.{has}
use Rattle.level_order.specs.Spread.{AreMarked, IsKept}
use Rattle.level_order.proofs.spread.Search.mark_all.Given as goal

abbrev pub invariant-loop-place : goal.invariant-loop-place
invariant-loop-place l = IsKept l.back l.self.seen.items l.self.steps.items l.self.found.items l.count × (l.self.seen.items ≡ l.fn.self.seen.items) × AreMarked l.count (λ p. has (take l.place-index l.places) p) l.fn.self.steps.items l.self.steps.items
