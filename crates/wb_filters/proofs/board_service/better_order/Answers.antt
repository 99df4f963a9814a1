use Rattle.std.proofs.Common.{ap, ◌∙◌}
use Rattle.std.specs.Ordering.{is_lt, ordering_then}
use Rattle.service_registry.proofs.RankOrder.{is_before}
use Rattle.wb_filters.proofs.OrderLaws.{rank_of}
use Rattle.wb_filters.proofs.board_service.better_order.Goals as goal

pub returns : goal.returns
returns c = ap is_lt (c.then.ensures ∙ (λ i. ordering_then (c.cmp.ensures i) (c.cmp-2.ensures i))) ∙ is_before (rank_of c.args.a.now) (rank_of c.args.b.now)
