use Rattle.std.proofs.Common.{ℕ, ◌<◌}
use Rattle.level_order.specs.Heights.{IsOpen}
use Rattle.level_order.proofs.heights.first_open.Given as goal

abbrev pub invariant-loop-place : goal.invariant-loop-place
invariant-loop-place l = (p : ℕ) → p < l.place → ¬ IsOpen l.first l.links l.heights p
