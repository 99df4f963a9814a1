use Rattle.std.proofs.Common.{◌≡◌, subst, []}
use Rattle.std.specs.Result.{IfOk}
use Rattle.reference_match.specs.Needs.{condition_name, implicit_need}
use Rattle.scr_readers.specs.ComponentViews.{state_with}
use Rattle.scr_readers.specs.declared.view.ReferenceState.{ReferenceState}
use Rattle.scr_readers.proofs.reference_states.implicit_state.Goals as goal

pub returns : goal.returns
returns c =
    let w = c.args.world.now in
    let properties = c.args.component.now.properties in
    let need : c.in_ok-need.need ≡ implicit_need properties = c.in_ok-need.ensures in
    let name : c.in_ok-name.name ≡ condition_name = c.in_ok-name.ensures in
    let bound : c.new.result.items ≡ [] = c.new.ensures.items in
    subst (λ (s : ReferenceState). IfOk c.state_with.result (λ state. state ≡ s)) (λ j. state_with w properties (name j) (need j) (bound j)) c.state_with.ensures
