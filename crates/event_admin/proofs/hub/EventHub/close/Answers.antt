use Rattle.event_admin.proofs.Moves.{learns, merges}
use Rattle.event_admin.proofs.hub.EventHub.close.Goals as goal

pub absorb-requires-clause-rule : goal.absorb-requires-clause-rule
absorb-requires-clause-rule g c = merges _ _ _ _

pub len_as-count-requires-clause-rule : goal.len_as-count-requires-clause-rule
len_as-count-requires-clause-rule g c = learns _ _
