use Rattle.level_order.specs.Heights.{IsRaised}
use Rattle.level_order.proofs.heights.raise_all.Given as goal

abbrev pub invariant-loop-place : goal.invariant-loop-place
invariant-loop-place l = IsRaised l.first l.links l.fn.heights.items l.heights.items
