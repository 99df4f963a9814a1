use Rattle.std.proofs.Common.{◌≡◌, ◌-◌}
use Rattle.http_front.specs.Flows.{flow}
use Rattle.http_front.proofs.ServingLemmas.{Progress}
use Rattle.http_front.proofs.connection.serve_connection.Given as goal

abbrev pub invariant-loop-request : goal.invariant-loop-request
invariant-loop-request g l = record {
  progress : Progress g.A.Answerer.answers (g.I.Source.left l.initial.input) (g.O.Sink.written l.initial.output) l.initial.answerer (flow (g.I.Source.left l.input) (g.O.Sink.written l.output) l.wire) l.answerer l.number;
  reads : g.I.Source.fault_count l.input ≡ g.I.Source.fault_count l.initial.input;
  writes : g.O.Sink.fault_count l.output ≡ g.O.Sink.fault_count l.initial.output;
}

abbrev pub decreases-loop-request : goal.decreases-loop-request
decreases-loop-request g l = 100 - l.number
