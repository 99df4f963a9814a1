use Rattle.std.proofs.Common.{◌≡◌, ◌<◌, ◌≤◌, ℕ, [], true, get_or}
use Rattle.level_order.specs.Ranks.{rank_at}
use Rattle.level_order.specs.Ways.{has}
use Rattle.level_order.proofs.ranks.never_fall.Given as goal

abbrev pub invariant-loop-place : goal.invariant-loop-place
invariant-loop-place l = (i j : ℕ) → i < l.place → has (get_or l.links i []) j ≡ true → rank_at l.ranks i ≤ rank_at l.ranks j
