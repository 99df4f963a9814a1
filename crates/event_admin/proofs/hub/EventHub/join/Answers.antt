use Rattle.event_admin.proofs.Moves.{learns, merges}
use Rattle.event_admin.proofs.hub.EventHub.join.Goals as goal

pub absorb-requires-clause-rule : goal.absorb-requires-clause-rule
absorb-requires-clause-rule c = merges _ _ _ _

pub learn_as-requires-clause-rule : goal.learn_as-requires-clause-rule
learn_as-requires-clause-rule c = learns _ _
