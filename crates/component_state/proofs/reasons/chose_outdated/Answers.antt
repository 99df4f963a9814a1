use Rattle.std.proofs.Common.{◌∙◌, ap, sym, ◌||◌, ◌+◌, drop}
use Rattle.std.specs.List.{list_any}
use Rattle.std.proofs.lemmas.Bool.{or_left}
use Rattle.prop_map.specs.Words.{with_places}
use Rattle.component_state.specs.Inside.ByNeeds.{is_wrong}
use Rattle.component_state.specs.Passes.{services_in}
use Rattle.component_state.proofs.PlaceLemmas.{any_next}
use Rattle.component_state.proofs.reasons.chose_outdated.Goals as goal

pub returns-then-branch : goal.returns-then-branch
returns-then-branch c =
    let t = is_wrong (services_in c.args.stage.now c.args.open_now.now) c.args.choices.now in
    let rest = list_any t (with_places (c.loop-place.place + 1) (drop (c.loop-place.place + 1) c.args.needs.now)) in
    sym
    (c.loop-place.invariant ∙ any_next t c.args.needs.now c.loop-place.place c.index-needs-place.result c.loop-place-test.true c.index-needs-place.is
    ∙ or_left (t (c.loop-place.place, c.index-needs-place.result)) rest (sym c.in_ok-is_wrong.ensures ∙ c.if-branch.true))

pub loop-place-preserved : goal.loop-place-preserved
loop-place-preserved c =
    let t = is_wrong (services_in c.args.stage.now c.args.open_now.now) c.args.choices.now in
    let rest = list_any t (with_places (c.loop-place.place + 1) (drop (c.loop-place.place + 1) c.args.needs.now)) in
    c.loop-place.invariant ∙ any_next t c.args.needs.now c.loop-place.place c.index-needs-place.result c.loop-place-test.true c.index-needs-place.is
    ∙ ap (λ b. b || rest) (sym c.in_ok-is_wrong.ensures ∙ c.if-branch.false)
