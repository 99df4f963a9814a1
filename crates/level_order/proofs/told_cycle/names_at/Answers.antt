use Rattle.std.proofs.Common.{◌∙◌, ◌++◌, ◌∷◌, [], ap, sym, ◌+◌, drop}
use Rattle.level_order.specs.Cycles.{names_at}
use Rattle.level_order.proofs.ToldLemmas.{names_at-named, names_at-past}
use Rattle.level_order.proofs.told_cycle.names_at.Goals as goal
use Rattle.level_order.proofs.told_cycle.names_at.Goals.{in-Some+in_ok-copy+in_ok-push, in_default}

pub loop-place-preserved : goal.loop-place-preserved
loop-place-preserved c =
    elim c.match-get.branch [
      | in-Some+in_ok-copy+in_ok-push w ↦
          (let found = w.in-Some.ensures.lookup in
          let all = names_at-named c.args.descriptions.now c.args.places.now c.loop-place.place-index w.in-Some.description.now c.loop-place.names.items c.loop-place-test.true found.3.0 found.1 c.loop-place.invariant in
          all ∙ ap (λ w. w ++ names_at c.args.descriptions.now (drop (c.loop-place.place-index + 1) c.args.places.now)) (ap (λ n. c.loop-place.names.items ++ n ∷ []) (sym w.in_ok-copy.ensures) ∙ sym w.in_ok-push.ensures.items ∙ ap (λ v. v.items) (sym w.names-is)))
      | in_default w ↦
          (let all = names_at-past c.args.descriptions.now c.args.places.now c.loop-place.place-index c.loop-place.names.items c.loop-place-test.true w.in_default.ensures.lookup.3 c.loop-place.invariant in
          all ∙ ap (λ v. v.items ++ names_at c.args.descriptions.now (drop (c.loop-place.place-index + 1) c.args.places.now)) (sym w.names-is))
    ]
