use Rattle.std.proofs.Common.{◌≡◌, ◌∙◌, ap, sym, length, List}
use Rattle.std.specs.Prelude.{filter, map}
use Rattle.std.proofs.lemmas.List.{length-map}
use Rattle.component_state.specs.declared.component.Component.{Component}
use Rattle.component_state.specs.ComponentConfigurations.{component_configurations, components_after}
use Rattle.component_state.specs.ComponentStates.{States, remaining, remains}
use Rattle.component_state.proofs.ReadyStates.{numbered_from}
use Rattle.component_state.proofs.plain_passes.asked_in.Goals as goal

pub returns-clause-numbered : goal.returns-clause-numbered
returns-clause-numbered c =
    let s = c.args.state.now in
    let w = c.args.world.now in
    let there = c.in_ok-before.ensures ∙ ap (filter (remains s)) (c.as_slice-4.ensures ∙ ap (λ (x : States). x.components) c.state.view_is) in
    let same : map (λ x. x.now) c.as_slice-6.result.now ≡ remaining s = ap (map (λ x. x.now)) c.as_slice-6.ensures.value ∙ there in
    let asked = c.as_slice-5.ensures.value ∙ c.in_ok-these.ensures
    ∙ ap (λ bs. component_configurations bs c.as_slice-3.result.now) (c.as_slice-2.ensures.value ∙ c.in_ok-bundles.ensures ∙ c.as_slice.ensures)
    ∙ ap (component_configurations w.bundles) c.as_slice-3.ensures in
    let whole = c.in_ok-components.ensures
    ∙ ap (λ k. components_after k c.state.inside.numbered c.as_slice-5.result.now (map (λ x. x.now) c.as_slice-6.result.now)) (ap (λ (x : States). x.passes) c.state.view_is)
    ∙ ap (λ k. components_after s.passes k c.as_slice-5.result.now (map (λ x. x.now) c.as_slice-6.result.now)) (ap (λ (x : States). x.numbered) c.state.view_is)
    ∙ ap (λ these. components_after s.passes s.numbered these (map (λ x. x.now) c.as_slice-6.result.now)) asked
    ∙ ap (components_after s.passes s.numbered (component_configurations w.bundles w.configurations)) same in
    numbered_from s w c.in_ok-numbered.numbered c.state.inside.numbered (length c.as_slice-7.result.now) (length c.as_slice-8.result.now) c.in_ok-numbered.ensures
    (ap (λ (x : States). x.numbered) c.state.view_is)
    (ap length (c.as_slice-7.ensures ∙ whole))
    (ap length c.as_slice-8.ensures.value ∙ sym (length-map c.in_ok-before.before.items (λ x. x.now)) ∙ ap length there)
