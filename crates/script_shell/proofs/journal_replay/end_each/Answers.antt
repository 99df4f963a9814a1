use Rattle.std.proofs.Common.{◌≡◌, rules, ◌∙◌, arith, get_or}
use Rattle.script_shell.specs.Replays.{with_ended}
use Rattle.script_shell.proofs.Mapped.{mapped_all, mapped_more, mapped_none}
use Rattle.script_shell.proofs.journal_replay.end_each.Goals as goal

pub loop-one-init : goal.loop-one-init
loop-one-init c = mapped_none (with_ended c.args.turn c.args.outcome) c.args.living.now

pub loop-one-preserved : goal.loop-one-preserved
loop-one-preserved c =
    let f = with_ended c.args.turn c.args.outcome in
    let item = c.one-item.result in
    let there = get_or c.loop-one.living c.loop-one.one-index item in
    let new : c.end_one.new.one ≡ f there = first_of (cc (c.end_one.ensures), search (rules, c.end_one.ensures)) in
    mapped_more f c.loop-one.one-index c.args.living.now c.loop-one.living item c.end_one.new.one (omega arith) c.loop-one.invariant new

pub returns : goal.returns
returns c = c.loop-one.invariant ∙ mapped_all (with_ended c.args.turn c.args.outcome) c.loop-one.one-index c.args.living.now (omega arith)
