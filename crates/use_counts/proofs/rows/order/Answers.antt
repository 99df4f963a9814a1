use Rattle.std.proofs.Common.{◌∙◌}
use Rattle.std.specs.Ordering.{ordering_then}
use Rattle.use_counts.proofs.rows.order.Goals as goal

pub returns : goal.returns
returns c = c.then.ensures ∙ (λ i. ordering_then (c.cmp.ensures i) (c.cmp-2.ensures i))
