use Rattle.std.proofs.Common.{◌∙◌, arith}
use Rattle.script_shell.proofs.Writing.{wrote_more}
use Rattle.script_shell.proofs.reply_output.write_all.Goals as goal

pub loop-at-preserved : goal.loop-at-preserved
loop-at-preserved g c =
    let taken = c.in-Took.ensures.bytes in
    record {
      within = omega (arith, taken.1);
      wrote = wrote_more (g.Out.Sink.written c.args.output.now) (g.Out.Sink.written c.loop-at.output) (g.Out.Sink.written c.write.new.self) c.args.bytes.now c.loop-at.at c.in-Took.count c.loop-at.invariant.wrote (rw c.split_at.ensures.back at taken.2);
      faults = c.in-Took.ensures.faults ∙ c.loop-at.invariant.faults;
    }
