use Rattle.std.proofs.Common.{◌≡◌, ◌+◌, length}
use Rattle.platform_sessions.specs.Halls.{IsOf, KeepsPass}
use Rattle.session_shell.proofs.Reached.{Reached}
use Rattle.session_shell.proofs.session.serve_lines.Given as goal

abbrev pub invariant-loop-line : goal.invariant-loop-line
invariant-loop-line g l = record {
  reached : Reached (record { limits = l.fn.hall.limits; refuses = g.K.Kinds.refuses }) (g.In.Source.left l.fn.input) (g.In.Source.left l.input) l.ahead.ended l.ahead.bytes.items l.fn.pass.front l.pass.front l.fn.notes.items l.notes.items (g.Out.Sink.written l.fn.output) (g.Out.Sink.written l.output) l.number;
  of : IsOf l.fn.hall l.pass;
  keeps : KeepsPass l.fn.pass.front l.pass.front;
  closed : l.pass.closed ≡ l.fn.pass.closed;
  reads : g.In.Source.fault_count l.input ≡ g.In.Source.fault_count l.fn.input;
  writes : g.Out.Sink.fault_count l.output ≡ g.Out.Sink.fault_count l.fn.output;
}

abbrev pub decreases-loop-line : goal.decreases-loop-line
decreases-loop-line g l = g.In.Source.number l.input + length l.ahead.bytes.items
