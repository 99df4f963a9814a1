use Rattle.std.proofs.Common.{arith}
use Rattle.call_runner.proofs.Stacked.{none_replied, set_replied}
use Rattle.call_runner.proofs.ending.note_reply.Goals as goal

pub returns-then-place-len : goal.returns-then-place-len
returns-then-place-len c =
    set_replied c.args.place c.args.reply c.args.nested.now.items c.index_mut.result.now c.index_mut.result.now (omega (arith, c.if-place-len.true, c.len.ensures)) c.index_mut.ensures.value

pub returns-else-place-len : goal.returns-else-place-len
returns-else-place-len c = none_replied c.args.place c.args.reply c.args.nested.now.items (omega (arith, c.if-place-len.false, c.len.ensures))
