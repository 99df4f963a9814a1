use Rattle.std.proofs.Common.{ap, ◌∙◌, arith}
use Rattle.event_admin.specs.declared.rule.Hand.{Hand}
use Rattle.event_admin.proofs.Moves.{learns, takes, ends_counted}
use Rattle.event_admin.proofs.hub.drained.Goals as goal

pub pop_as-requires-clause-rule : goal.pop_as-requires-clause-rule
pop_as-requires-clause-rule g c = (takes _ _ (ap (λ (h : Hand). h.gets) c.loop.invariant.1 ∙ c.loop.invariant.6), learns _ _)

pub learn_as-requires-clause-rule : goal.learn_as-requires-clause-rule
learn_as-requires-clause-rule g c = learns _ _

pub returns : goal.returns
returns g c = let i = c.loop.invariant in let e = c.loop-test.false in let f = c.loop.auto.counter-end in
    ends_counted _ _ _ c.args.count i.1 (let s = i.3 in omega arith) i.6 i.7 i.5 c.learn_as.ensures.rule
