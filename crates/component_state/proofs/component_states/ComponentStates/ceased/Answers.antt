use Rattle.component_state.proofs.StateSteps.{ceased_kept}
use Rattle.component_state.proofs.component_states.ComponentStates.ceased.Goals as goal

pub invariant_of-self : goal.invariant_of-self
invariant_of-self c = (c.self.invariant.0, ceased_kept c.self.invariant.1 c.args.instance _ c.without.ensures)
