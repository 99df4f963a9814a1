use Rattle.std.proofs.Common.{◌≡◌, ℕ, false, length, get_or}
use Rattle.level_order.proofs.ways.unseen.Given as goal

abbrev pub invariant-loop-at : goal.invariant-loop-at
invariant-loop-at l = (length l.seen.items ≡ l._at) × ((k : ℕ) → get_or l.seen.items k false ≡ false)
