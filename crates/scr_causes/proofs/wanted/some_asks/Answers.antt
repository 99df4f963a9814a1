use Rattle.std.proofs.Common.{◌∙◌, ap, sym, ◌||◌, ◌+◌, drop}
use Rattle.std.specs.List.{list_any}
use Rattle.std.proofs.lemmas.Bool.{or_left}
use Rattle.scr_causes.specs.WantedHere.{asks}
use Rattle.scr_causes.proofs.WantedLemmas.{any_rest}
use Rattle.scr_causes.proofs.wanted.some_asks.Goals as goal

pub returns-then-branch : goal.returns-then-branch
returns-then-branch c =
    let t = asks c.args.world.now c.args.component.now c.args.service in
    let rest = list_any t (drop (c.loop-instance.instance-index + 1) c.args.instances.now) in
    sym (c.loop-instance.invariant ∙ any_rest t c.args.instances.now c.loop-instance.instance-index c.instance-item.result c.loop-instance-test.true c.instance-item.is
    ∙ or_left (t c.instance-item.result) rest (sym c.in_ok-asks.ensures ∙ c.if-branch.true))

pub loop-instance-preserved : goal.loop-instance-preserved
loop-instance-preserved c =
    let t = asks c.args.world.now c.args.component.now c.args.service in
    let rest = list_any t (drop (c.loop-instance.instance-index + 1) c.args.instances.now) in
    c.loop-instance.invariant ∙ any_rest t c.args.instances.now c.loop-instance.instance-index c.instance-item.result c.loop-instance-test.true c.instance-item.is
    ∙ ap (λ b. b || rest) (sym c.in_ok-asks.ensures ∙ c.if-branch.false)
