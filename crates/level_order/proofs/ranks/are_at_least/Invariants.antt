use Rattle.std.proofs.Common.{◌≡◌, ◌≤◌, ℕ, true, take}
use Rattle.level_order.specs.Ranks.{rank_at}
use Rattle.level_order.specs.Ways.{has}
use Rattle.level_order.proofs.ranks.are_at_least.Given as goal

abbrev pub invariant-loop-place : goal.invariant-loop-place
invariant-loop-place l = (p : ℕ) → has (take l.place-index l.places) p ≡ true → l.rank ≤ rank_at l.ranks p
