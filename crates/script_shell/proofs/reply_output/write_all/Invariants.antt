use Rattle.std.proofs.Common.{◌≡◌, ◌-◌, ◌≤◌, length, take}
use Rattle.std.specs.Io.KnownBytes.{Appends}
use Rattle.script_shell.proofs.reply_output.write_all.Given as goal

abbrev pub invariant-loop-at : goal.invariant-loop-at
invariant-loop-at g l = record {
  within : l.at ≤ length l.bytes;
  wrote : Appends (g.Out.Sink.written l.initial.output) (g.Out.Sink.written l.output) (take l.at l.bytes);
  faults : g.Out.Sink.fault_count l.output ≡ g.Out.Sink.fault_count l.initial.output;
}

abbrev pub decreases-loop-at : goal.decreases-loop-at
decreases-loop-at g l = length l.bytes - l.at
