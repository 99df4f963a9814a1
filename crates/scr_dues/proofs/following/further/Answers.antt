use Rattle.std.proofs.Common.{◌∙◌, ap, arith, sym, subst, List, drop, suc}
use Rattle.component_state.specs.declared.origin.Choice.{Choice}
use Rattle.component_state.specs.declared.origin.Origin.{Origin}
use Rattle.scr_dues.specs.Makings.{AreChoicesFrom}
use Rattle.scr_dues.proofs.KnownPlaces.{choices_on, next_one, place_on}
use Rattle.scr_dues.proofs.following.further.Goals as goal

pub loop-reference-preserved : goal.loop-reference-preserved
loop-reference-preserved c =
    let i = c.args.instance.now in
    let rs = c.args.references.now in
    let known = c.loop-reference.known in
    let items = c.references_behind-reference-items.result.now in
    let passed = subst (λ (cs : List Choice). AreChoicesFrom known.place (drop known.choices cs) (drop c.choices_before.result cs)) (c.as_slice-chosen.ensures ∙ ap (λ (o : Origin). o.chosen) c.get.ensures) c.choices_before.ensures in
    let next = next_one rs items c.args.making.place c.loop-reference.reference-index known.place c.reference-item.result c.references_behind-reference-items.ensures c.loop-reference.invariant.place c.loop-reference-test.true c.reference-item.is in
    let at = c.loop-reference.invariant.place in
    record {
      holds = place_on i rs (record known { choices = c.choices_before.result }) c.reference-item.result (drop (suc c.loop-reference.reference-index) items)
          (choices_on i rs known c.choices_before.result c.loop-reference.invariant.holds passed) next (sym c.holds_choice.ensures ∙ c.if-not-holds_choice.false);
      same = c.loop-reference.invariant.same;
      place = omega (arith, at);
    }
