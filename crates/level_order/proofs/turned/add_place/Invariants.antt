use Rattle.std.proofs.Common.{◌≡◌, ◌<◌, ◌+◌, ℕ, [], length, get_or, take, ◌&&◌, ◌||◌}
use Rattle.std.specs.Prelude.{◌==◌}
use Rattle.level_order.specs.Ways.{has}
use Rattle.level_order.proofs.turned.add_place.Given as goal

abbrev pub invariant-loop-number : goal.invariant-loop-number
invariant-loop-number l = (length l.turned.items ≡ length l.fn.turned.items) × ((k p : ℕ) → k < length l.fn.turned.items → has (get_or l.turned.items k []) p ≡ (has (get_or l.fn.turned.items k []) p || ((l.place == p) && has (take l.number-index l.numbers) (l.first + k))))
