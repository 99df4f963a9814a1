use Rattle.std.proofs.Common.{ap, ◌∙◌, inl, inr}
use Rattle.event_admin.specs.declared.rule.Hand.{Hand}
use Rattle.event_admin.specs.Hands.{both}
use Rattle.event_admin.proofs.Moves.{merges, notes}
use Rattle.event_admin.proofs.hub.EventHub.meet.Goals as goal

pub another-theirs-requires-clause-rule : goal.another-theirs-requires-clause-rule
another-theirs-requires-clause-rule c = notes _ _ (inl (ap (λ (h : Hand). h.gets) c.delivery.invariant.2))

pub absorb-requires-clause-rule : goal.absorb-requires-clause-rule
absorb-requires-clause-rule c = merges _ _ _ _

pub another-ours-requires-clause-rule : goal.another-ours-requires-clause-rule
another-ours-requires-clause-rule c = notes _ _ (inr (ap (λ (h : Hand). h.taken) c.absorb.ensures.rule ∙ (ap (λ (h : Hand). (both h c.another-theirs.result.me.0.client).taken) c.publisher.invariant.1 ∙ ap (λ (h : Hand). h.taken) c.another-theirs.ensures.rule.1)))

pub absorb-requires-2-clause-rule : goal.absorb-requires-2-clause-rule
absorb-requires-2-clause-rule c = merges _ _ _ _
