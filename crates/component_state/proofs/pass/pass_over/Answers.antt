use Rattle.std.proofs.Common.{◌≡◌, ◌∙◌, ap, sym, subst, length}
use Rattle.std.specs.Prelude.{fold, map}
use Rattle.std.proofs.lemmas.List.{drop_all}
use Rattle.component_state.specs.Inside.Runs.{passed_all, passed_one}
use Rattle.component_state.specs.Passes.{HasPassed, Stage}
use Rattle.component_state.proofs.Passing.{has_passed, levels_length}
use Rattle.component_state.proofs.pass.pass_over.Goals as goal

pub pass_order-requires : goal.pass_order-requires
pass_order-requires c = subst (λ (s : Stage). length s.descriptions ≡ length s.levels) (sym c.stage.view_is) (levels_length c.args.stage.now.descriptions c.args.stage.now.levels c.requires.levels)

pub returns : goal.returns
returns c =
    let s = c.args.stage.now in
    let none = drop_all c.loop-component.component-index c.deref-component-items.result.now c.loop-component-test.false in
    let whole : c.loop-component.progress ≡ passed_all s = sym (ap (λ w. fold (passed_one s) c.loop-component.progress (map (λ x. x.now) w)) none) ∙ c.loop-component.invariant in
    subst (HasPassed s) (sym whole) (has_passed s c.requires)
