use Rattle.std.proofs.Common.{◌≡◌, ◌+◌, length, true}
use Rattle.script_shell.specs.FormRuns.{script_setting}
use Rattle.script_shell.specs.Rests.{HasNothingDue}
use Rattle.script_shell.proofs.Reached.{Reached}
use Rattle.script_shell.proofs.script_run.run_lines.Given as goal

abbrev pub invariant-loop-line : goal.invariant-loop-line
invariant-loop-line g l = record {
  reached : Reached (script_setting g.K.Kinds.refuses g.K.Kinds.next l.options) l.options (g.In.Source.left l.initial.input) (g.In.Source.left l.input) l.ahead.ended l.ahead.bytes.items l.initial.platform l.platform (g.Out.Sink.written l.initial.output) (g.Out.Sink.written l.output) l.number;
  reads : g.In.Source.fault_count l.input ≡ g.In.Source.fault_count l.initial.input;
  writes : g.Out.Sink.fault_count l.output ≡ g.Out.Sink.fault_count l.initial.output;
  rested : l.rested ≡ true → HasNothingDue l.platform;
}

abbrev pub decreases-loop-line : goal.decreases-loop-line
decreases-loop-line g l = g.In.Source.number l.input + length l.ahead.bytes.items
