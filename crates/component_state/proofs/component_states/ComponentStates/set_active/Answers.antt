use Rattle.component_state.proofs.StateSteps.{active_kept}
use Rattle.component_state.proofs.component_states.ComponentStates.set_active.Goals as goal

pub invariant_of-self : goal.invariant_of-self
invariant_of-self c = (c.self.invariant.0, active_kept c.self.invariant.1 c.args.instance c.args.active _ c.set_active.ensures)
