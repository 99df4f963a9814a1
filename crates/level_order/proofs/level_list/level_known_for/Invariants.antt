use Rattle.std.proofs.Common.{◌≡◌, ◌<◌, ℕ, length, get_or, Some, None}
use Rattle.level_order.proofs.level_list.level_known_for.Given as goal

abbrev pub invariant-loop-place : goal.invariant-loop-place
invariant-loop-place l = (length l.known.items ≡ l.place) × ((p : ℕ) → p < l.place → get_or l.heights p None ≡ Some (get_or l.known.items p 0))
