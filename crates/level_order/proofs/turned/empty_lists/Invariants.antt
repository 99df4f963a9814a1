use Rattle.std.proofs.Common.{◌≡◌, ℕ, [], length, get_or}
use Rattle.level_order.proofs.turned.empty_lists.Given as goal

abbrev pub invariant-loop-at : goal.invariant-loop-at
invariant-loop-at l = (length l.lists.items ≡ l._at) × ((k : ℕ) → get_or l.lists.items k [] ≡ [])
