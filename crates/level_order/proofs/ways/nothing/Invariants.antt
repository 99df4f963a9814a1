use Rattle.std.proofs.Common.{◌≡◌, ℕ, None, length, get_or}
use Rattle.level_order.proofs.ways.nothing.Given as goal

abbrev pub invariant-loop-at : goal.invariant-loop-at
invariant-loop-at l = (length l.steps.items ≡ l._at) × ((k : ℕ) → get_or l.steps.items k None ≡ None)
