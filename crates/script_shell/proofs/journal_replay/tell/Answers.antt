use Rattle.std.proofs.Common.{◌≡◌, rules, ◌∙◌, arith, get_or}
use Rattle.script_shell.specs.Replays.{with_begun}
use Rattle.script_shell.proofs.Mapped.{mapped_all, mapped_more, mapped_none}
use Rattle.script_shell.proofs.journal_replay.tell.Goals as goal

pub loop-one-init : goal.loop-one-init
loop-one-init c = mapped_none (with_begun c.args.turn c.args.instance c.args.callback.now) c.args.living.now

pub loop-one-preserved : goal.loop-one-preserved
loop-one-preserved c =
    let f = with_begun c.args.turn c.args.instance c.args.callback.now in
    let item = c.one-item.result in
    let there = get_or c.loop-one.living c.loop-one.one-index item in
    let new : c.tell_one.new.one ≡ f there = first_of (cc (c.in_ok-tell_one.ensures), search (rules, c.in_ok-tell_one.ensures)) in
    mapped_more f c.loop-one.one-index c.args.living.now c.loop-one.living item c.tell_one.new.one (omega arith) c.loop-one.invariant new

pub returns : goal.returns
returns c = c.loop-one.invariant ∙ mapped_all (with_begun c.args.turn c.args.instance c.args.callback.now) c.loop-one.one-index c.args.living.now (omega arith)
