use Rattle.std.proofs.Common.{◌≡◌, ◌≤◌, ◌++◌, drop, length}
use Rattle.http_front.specs.Flows.{flow, Waits}
use Rattle.http_front.proofs.request_body.await_chunks.Given as goal

abbrev pub invariant-loop-read : goal.invariant-loop-read
invariant-loop-read g l = record {
  waits : Waits (flow (g.I.Source.left l.initial.input) (g.O.Sink.written l.initial.output) l.initial.wire) (flow (g.I.Source.left l.input) (g.O.Sink.written l.output) l.wire);
  behind : l.at ≤ l.seen;
  within : l.seen ≤ length l.wire.pending.items;
  told : drop l.at l.wire.pending.items ≡ l.reader ++ drop l.seen l.wire.pending.items;
  reads : g.I.Source.fault_count l.input ≡ g.I.Source.fault_count l.initial.input;
  writes : g.O.Sink.fault_count l.output ≡ g.O.Sink.fault_count l.initial.output;
}

abbrev pub decreases-loop-read : goal.decreases-loop-read
decreases-loop-read g l = g.I.Source.number l.input
