use Rattle.std.proofs.Common.{◌∙◌, ◌++◌, ◌∷◌, [], ap, sym, append_assoc, ◌-◌}
use Rattle.level_order.specs.Uses.{all_uses}
use Rattle.level_order.specs.Ways.{least_path}
use Rattle.level_order.proofs.PathLemmas.{least_path-more}
use Rattle.level_order.proofs.least_path.push_least_path.Goals as goal

pub loop-left-preserved : goal.loop-left-preserved
loop-left-preserved c =
    let more = least_path-more (all_uses c.args.descriptions.now) c.args.steps.now c.loop-left.at c.loop-left.left c.in-Some.place c.loop-left-test.true (sym c.first_at.ensures ∙ c.in-Some.is) in
    c.loop-left.invariant ∙ ap (λ w. c.loop-left.path.items ++ w) more
    ∙ sym (append_assoc c.loop-left.path.items (c.in-Some.place ∷ []) (least_path (all_uses c.args.descriptions.now) c.args.steps.now c.in-Some.place (c.loop-left.left - 1)))
    ∙ ap (λ w. w ++ least_path (all_uses c.args.descriptions.now) c.args.steps.now c.in-Some.place (c.loop-left.left - 1)) (sym c.in_ok-push-in-Some.ensures.items)
