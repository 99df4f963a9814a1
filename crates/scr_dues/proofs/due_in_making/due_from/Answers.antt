use Rattle.std.proofs.Common.{◌≡◌, ◌+◌, ◌∙◌, ap, arith, sym, List, drop}
use Rattle.component_state.specs.declared.origin.Choice.{Choice}
use Rattle.component_state.specs.declared.origin.Origin.{Origin}
use Rattle.component_state.specs.Reasons.{choice_at}
use Rattle.scr_world.specs.Views.{references_in}
use Rattle.scr_dues.proofs.InMaking.{due_behind, due_goes_on, due_passes, due_stops}
use Rattle.scr_dues.proofs.due_in_making.due_from.Goals as goal

pub loop-at-init : goal.loop-at-init
loop-at-init c =
    let w = c.args.world.now in
    let i = c.args.instance.now in
    let place = c.args.making.place in
    let rest : c.references_behind-references.result.now ≡ drop place (references_in w i) = c.references_behind-references.ensures ∙ ap (drop place) c.references_in.ensures in
    let at : 0 + place ≡ place + 0 = omega arith in
    let choices : c.choices_behind-choices.result.now ≡ drop c.args.making.choices i.origin.chosen = c.choices_behind-choices.ensures ∙ ap (λ (cs : List Choice). drop c.args.making.choices cs) (c.as_slice.ensures ∙ ap (λ (o : Origin). o.chosen) c.get.ensures) in
    record {
      due = due_passes w i place 0 (references_in w i) (λ r h low. c.requires.before r h (omega (arith, low))) ∙ (λ j. due_behind w i (at j) (sym rest j));
      choices = λ later from. ap (λ (cs : List Choice). choice_at cs later) choices ∙ c.requires.behind later (omega (arith, from));
    }

pub returns-then-not-is_activate : goal.returns-then-not-is_activate
returns-then-not-is_activate c =
    due_stops c.args.world.now c.args.instance.now c.args.making.place c.loop-at.at c.references_behind-references.result.now c.index-references-at.result c.loop-at-test.true c.index-references-at.is c.in_ok-due.due c.in_ok-due.ensures
    (sym c.is_activate.ensures ∙ c.if-not-is_activate.true)
    ∙ sym c.loop-at.invariant.due

pub loop-at-preserved : goal.loop-at-preserved
loop-at-preserved c = record {
  due =
      c.loop-at.invariant.due
      ∙ due_goes_on c.args.world.now c.args.instance.now c.args.making.place c.loop-at.at c.references_behind-references.result.now c.index-references-at.result c.loop-at-test.true c.index-references-at.is c.in_ok-due.due c.in_ok-due.ensures
      (sym c.is_activate.ensures ∙ c.if-not-is_activate.false);
  choices = λ later from. c.choices_from-choices.ensures later (omega (arith, from)) ∙ c.loop-at.invariant.choices later (omega (arith, from));
}
