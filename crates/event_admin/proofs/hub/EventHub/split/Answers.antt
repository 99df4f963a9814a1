use Rattle.std.proofs.Common.{ap, arith}
use Rattle.event_admin.specs.declared.rule.Hand.{Hand}
use Rattle.event_admin.specs.Views.{PublisherView}
use Rattle.event_admin.proofs.Moves.{cut_off}
use Rattle.event_admin.proofs.hub.EventHub.split.Goals as goal

pub another-other-requires-clause-rule : goal.another-other-requires-clause-rule
another-other-requires-clause-rule c = let p = ap (λ (h : Hand). h.parts) c.publisher.invariant.1 in let s = ap (λ (q : PublisherView). q.spare) c.publisher.view_is in let r = c.requires.1 in cut_off _ _ (omega arith)
