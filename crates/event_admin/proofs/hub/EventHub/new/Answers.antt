use Rattle.std.proofs.Common.{ap, arith}
use Rattle.event_admin.specs.declared.rule.Hand.{Hand}
use Rattle.event_admin.proofs.Moves.{roles}
use Rattle.event_admin.proofs.hub.EventHub.new.Goals as goal

pub another-taker-requires-clause-rule : goal.another-taker-requires-clause-rule
another-taker-requires-clause-rule c = let e = c.in_ok-queue.ensures.3 in let p = ap (λ (h : Hand). h.parts) e in roles _ _ (ap (λ (h : Hand). h.gets) e) (omega arith)
