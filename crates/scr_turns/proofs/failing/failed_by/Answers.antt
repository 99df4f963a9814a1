use Rattle.std.proofs.Common.{◌∙◌, ap, ℕ, List}
use Rattle.component_state.specs.declared.component.Component.{Component}
use Rattle.component_state.specs.Marks.{failed_after}
use Rattle.scr_turns.proofs.TurnDrafted.{failed_in}
use Rattle.scr_turns.proofs.failing.failed_by.Goals as goal

pub returns : goal.returns
returns c =
    let w = c.args.state.now.world in
    c.of.ensures ∙ c.in_ok-failed.ensures
    ∙ ap (λ (ns : List ℕ). failed_after w.entries ns c.as_slice-2.result.now c.as_slice-3.result.now c.as_slice-4.result.now) c.as_slice.ensures
    ∙ ap (λ (cs : List Component). failed_after w.entries c.args.state.now.satisfied cs c.as_slice-3.result.now c.as_slice-4.result.now) c.as_slice-2.ensures
    ∙ ap (λ (ns : List ℕ). failed_after w.entries c.args.state.now.satisfied w.components ns c.as_slice-4.result.now) c.as_slice-3.ensures
    ∙ ap (λ (ns : List ℕ). failed_after w.entries c.args.state.now.satisfied w.components c.in_ok-failing.failing ns) c.as_slice-4.ensures
    ∙ ap (λ (ns : List ℕ). failed_after w.entries c.args.state.now.satisfied w.components ns w.failed) c.in_ok-failing.ensures
    ∙ failed_in c.args.step.now w c.args.state.now.satisfied c.requires.turn c.requires.satisfied
