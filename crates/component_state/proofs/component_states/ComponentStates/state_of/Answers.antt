use Rattle.std.proofs.Common.{◌∙◌, ap, Some}
use Rattle.std.specs.Prelude.{option_map}
use Rattle.component_state.specs.Components.{existing_of}
use Rattle.component_state.specs.ComponentStates.{States, state_in}
use Rattle.component_state.proofs.component_states.ComponentStates.state_of.Goals as goal

pub returns-in-Some : goal.returns-in-Some
returns-in-Some c =
    ap Some c.state_in.ensures
    ∙ ap (option_map (state_in c.args.self.now))
    (c.in-Some.ensures ∙ ap (λ cs. existing_of cs c.args.configuration) (c.as_slice.ensures ∙ ap (λ (s : States). s.components) c.self.view_is))
