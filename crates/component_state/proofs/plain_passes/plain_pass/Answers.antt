use Rattle.std.proofs.Common.{◌∙◌, ◌+◌, ap, sym, refl, subst, length}
use Rattle.component_state.specs.ComponentStates.{States, after_pass}
use Rattle.component_state.specs.Inside.Ready.{configurations_open}
use Rattle.component_state.specs.Inside.SoundStates.{AreSound}
use Rattle.component_state.specs.Marks.{failed_after}
use Rattle.component_state.proofs.ReadyStates.{same_states, states_after}
use Rattle.component_state.proofs.plain_passes.plain_pass.Goals as goal

pub invariant_of-state : goal.invariant_of-state
invariant_of-state c =
    let s = c.args.state.now in (
      c.in_ok-none.ensures.count ∙ ap length c.as_slice-3.ensures,
      subst AreSound
          (sym (same_states {b = after_pass c.args.state.now c.args.world.now c.in_ok-passed.passed.open_now c.in_ok-passed.passed.satisfied}
          (c.in_ok-passes.ensures ∙ ap (λ (x : States). x.passes + 1) c.state.view_is)
          c.in_ok-asked.ensures.numbered
          c.in_ok-asked.ensures.components
          refl
          (ap (λ (x : States). x.instances) c.state.view_is)
          refl
          (c.in_ok-marks.ensures.failed ∙ ap (λ cs. failed_after s.passes s.satisfied cs s.failing s.failed) (c.as_slice.ensures ∙ c.in_ok-asked.ensures.components))
          (c.in_ok-none.ensures.unset (configurations_open c.in_ok-passed.passed.open_now))))
          (states_after c.args.state.now c.args.world.now (subst AreSound c.state.view_is c.state.invariant.1) c.requires c.in_ok-passed.passed c.in_ok-passed.ensures),
    )
