use Rattle.std.proofs.Common.{ap}
use Rattle.event_admin.specs.declared.rule.Hand.{Hand}
use Rattle.event_admin.proofs.Moves.{learns, takes}
use Rattle.event_admin.proofs.hub.EventHub.next.Goals as goal

pub pop_as-requires-clause-rule : goal.pop_as-requires-clause-rule
pop_as-requires-clause-rule g c = (takes _ _ (ap (λ (h : Hand). h.gets) c.delivery.invariant.2), learns _ _)
