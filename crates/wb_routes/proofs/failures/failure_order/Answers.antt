use Rattle.std.proofs.Common.{ap, ◌∙◌}
use Rattle.std.specs.Cmp.Lexicographic.{slice_cmp}
use Rattle.std.specs.Ordering.{is_lt, nat_cmp, ordering_then}
use Rattle.wb_routes.proofs.OrderLaws.{fails_first}
use Rattle.wb_routes.proofs.failures.failure_order.Goals as goal

pub returns : goal.returns
returns c =
    ap is_lt (c.then.ensures ∙ (λ i. ordering_then (c.cmp.ensures i) ((c.cmp-2.ensures ∙ (λ j. slice_cmp nat_cmp (c.as_str.ensures j) (c.as_str-2.ensures j))) i)))
    ∙ fails_first c.args.a.now c.args.b.now
