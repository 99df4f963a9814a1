use Rattle.std.proofs.Common.{◌∙◌, ap, sym, refl, subst}
use Rattle.std.specs.Prelude.{IfOk, filter, flat_map, map}
use Rattle.service_registry.specs.declared.row.ServiceRow.{ServiceRow}
use Rattle.component_state.specs.declared.living_instance.LivingInstance.{LivingInstance}
use Rattle.component_state.specs.declared.rows.BundleRow.{BundleRow}
use Rattle.component_state.specs.ComponentStates.{States, stage_in}
use Rattle.component_state.specs.Inside.Ready.{IsReady}
use Rattle.component_state.specs.Inside.SoundStates.{AreSound}
use Rattle.component_state.specs.Passes.{HasPassed, Stage}
use Rattle.component_state.specs.Rows.{with_present_properties}
use Rattle.component_state.proofs.ReadyStates.{same_stage, states_ready}
use Rattle.component_state.proofs.plain_passes.pass_in.Goals as goal

pub pass_over-requires : goal.pass_over-requires
pass_over-requires c = subst IsReady (sym (same_stage {b = stage_in c.args.state.now c.args.world.now}
    (ap (λ (x : States). x.passes) c.state.view_is)
    refl
    (c.as_slice-5.ensures.value ∙ c.in_ok-descriptions.ensures ∙ ap (flat_map (λ (b : BundleRow). b.descriptions)) c.as_slice.ensures)
    c.as_slice-6.ensures
    (c.as_slice-7.ensures.value ∙ c.in_ok-direct.ensures ∙ ap (filter (λ (r : ServiceRow). r.direct)) c.as_slice-2.ensures)
    c.requires.components
    (c.as_slice-8.ensures ∙ c.in_ok-open_before.ensures
    ∙ ap (map (with_present_properties c.args.components.now)) (c.as_slice-3.ensures ∙ ap (λ (x : States). x.open_periods) c.state.view_is)
    ∙ ap (λ cs. map (with_present_properties cs) c.args.state.now.open_periods) c.requires.components)
    (ap (map (λ o. o.now)) c.as_slice-9.ensures.value ∙ c.in_ok-origins.ensures
    ∙ ap (map (λ (i : LivingInstance). i.origin)) (c.as_slice-4.ensures.value ∙ ap (λ (x : States). x.instances) c.state.view_is))
    (c.as_slice-10.ensures.value ∙ c.requires.failed)
    (c.as_slice-11.ensures.value ∙ c.requires.failing)))
    (states_ready c.args.state.now c.args.world.now (subst AreSound c.state.view_is c.state.invariant.1) c.requires.may)

pub returns : goal.returns
returns c = subst (λ (s : Stage). IfOk c.pass_over.result (λ p. HasPassed s p)) (same_stage {b = stage_in c.args.state.now c.args.world.now}
    (ap (λ (x : States). x.passes) c.state.view_is)
    refl
    (c.as_slice-5.ensures.value ∙ c.in_ok-descriptions.ensures ∙ ap (flat_map (λ (b : BundleRow). b.descriptions)) c.as_slice.ensures)
    c.as_slice-6.ensures
    (c.as_slice-7.ensures.value ∙ c.in_ok-direct.ensures ∙ ap (filter (λ (r : ServiceRow). r.direct)) c.as_slice-2.ensures)
    c.requires.components
    (c.as_slice-8.ensures ∙ c.in_ok-open_before.ensures
    ∙ ap (map (with_present_properties c.args.components.now)) (c.as_slice-3.ensures ∙ ap (λ (x : States). x.open_periods) c.state.view_is)
    ∙ ap (λ cs. map (with_present_properties cs) c.args.state.now.open_periods) c.requires.components)
    (ap (map (λ o. o.now)) c.as_slice-9.ensures.value ∙ c.in_ok-origins.ensures
    ∙ ap (map (λ (i : LivingInstance). i.origin)) (c.as_slice-4.ensures.value ∙ ap (λ (x : States). x.instances) c.state.view_is))
    (c.as_slice-10.ensures.value ∙ c.requires.failed)
    (c.as_slice-11.ensures.value ∙ c.requires.failing))
    c.pass_over.ensures
