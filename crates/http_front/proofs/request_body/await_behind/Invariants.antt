use Rattle.std.proofs.Common.{◌≡◌, ◌≤◌, length}
use Rattle.http_front.specs.Flows.{flow, Waits}
use Rattle.http_front.proofs.request_body.await_behind.Given as goal

abbrev pub invariant-loop-wire : goal.invariant-loop-wire
invariant-loop-wire g l = record {
  waits : Waits (flow (g.I.Source.left l.initial.input) (g.O.Sink.written l.initial.output) l.initial.wire) (flow (g.I.Source.left l.input) (g.O.Sink.written l.output) l.wire);
  within : l.at ≤ length l.wire.pending.items;
  reads : g.I.Source.fault_count l.input ≡ g.I.Source.fault_count l.initial.input;
  writes : g.O.Sink.fault_count l.output ≡ g.O.Sink.fault_count l.initial.output;
}

abbrev pub decreases-loop-wire : goal.decreases-loop-wire
decreases-loop-wire g l = g.I.Source.number l.input
