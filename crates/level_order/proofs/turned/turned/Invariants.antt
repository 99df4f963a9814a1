use Rattle.std.proofs.Common.{◌≡◌, ◌<◌, ◌+◌, ℕ, [], length, get_or, ◌&&◌}
use Rattle.std.specs.Prelude.{nat_lt}
use Rattle.level_order.specs.Ways.{has}
use Rattle.level_order.proofs.turned.turned.Given as goal

abbrev pub invariant-loop-place : goal.invariant-loop-place
invariant-loop-place l = (length l.turned.items ≡ l.count) × ((k p : ℕ) → k < l.count → has (get_or l.turned.items k []) p ≡ (nat_lt p l.place && has (get_or l.lists p []) (l.first + k)))
