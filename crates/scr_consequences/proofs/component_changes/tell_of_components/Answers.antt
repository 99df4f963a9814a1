use Rattle.std.proofs.Common.{◌≡◌, ℕ, List, [], Bor, ◌∙◌, ap, arith, length, sym, subst}
use Rattle.prop_map.specs.Words.{has}
use Rattle.std.specs.Prelude.{OnOk, map}
use Rattle.std.specs.List.{flat_map}
use Rattle.component_state.specs.Components.{pass_order}
use Rattle.component_state.specs.declared.component.Component.{Component}
use Rattle.scr_consequences.proofs.MovedLemmas.{fewer, none_left, nothing_moved}
use Rattle.scr_consequences.proofs.TellingLemmas.{after_none}
use Rattle.scr_consequences.specs.Changes.{change_at}
use Rattle.scr_consequences.specs.Moves.{moved}
use Rattle.service_listeners.specs.Listening.{Change, after_changes}
use Rattle.scr_consequences.proofs.component_changes.tell_of_components.Goals as goal

pub returns-clause-ok : goal.returns-clause-ok
returns-clause-ok c =
    let was = c.args.was_periods.now in
    let now = c.args.now_periods.now in
    let ds = c.args.descriptions.now in
    let levels = c.args.levels.now in
    let f = change_at was now in
    let all : flat_map f (pass_order ds levels c.args.components.now) ≡ flat_map f (map (λ x. x.now) c.as_slice-2.result.now) =
    fewer was now _ (λ n. c.of-moved.ensures n ∙ ap (λ (ns : List ℕ). has ns n) c.in_ok-numbers.ensures) ds levels c.args.components.now
    ∙ ap (λ (cs : List Component). flat_map f (pass_order ds levels cs)) (sym (ap (λ (xs : List (Bor Component)). map (λ x. x.now) xs) c.as_slice.ensures.value ∙ c.in_ok-some.ensures))
    ∙ ap (flat_map f) (sym (ap (λ (xs : List (Bor Component)). map (λ x. x.now) xs) c.as_slice-2.ensures.value ∙ c.in_ok-ordered.ensures)) in
    subst (λ (cs : List Change). OnOk c.tell_of_each.result (c.tell_of_each.new.listeners ≡ after_changes cs c.args.listeners.now)) (sym all) c.tell_of_each.ensures.ok

pub returns-then-is_empty-clause-ok : goal.returns-then-is_empty-clause-ok
returns-then-is_empty-clause-ok c =
    let listeners = c.args.listeners.now in
    let numbers = c.in_ok-numbers.numbers in
    let long : length numbers.items ≡ numbers.len = omega (arith, numbers.ok.0) in
    let none : moved c.args.was_periods.now c.args.now_periods.now ≡ [] =
    sym c.in_ok-numbers.ensures ∙ none_left numbers.items numbers.len long (sym c.is_empty.ensures ∙ c.if-is_empty.true) in
    sym (after_none listeners)
    ∙ ap (λ (cs : List Change). after_changes cs listeners)
    (sym (nothing_moved c.args.was_periods.now c.args.now_periods.now none c.args.descriptions.now c.args.levels.now c.args.components.now))
