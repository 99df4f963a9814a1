use Rattle.component_state.proofs.StateSteps.{begun_kept}
use Rattle.component_state.proofs.component_states.ComponentStates.began.Goals as goal

pub invariant_of-self-2 : goal.invariant_of-self-2
invariant_of-self-2 c = (c.self.invariant.0, begun_kept c.self.invariant.1 c.args.configuration c.args.instance _ _ c.in_ok-push.ensures.items)
