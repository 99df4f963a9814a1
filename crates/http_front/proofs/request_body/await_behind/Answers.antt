use Rattle.std.proofs.Common.{◌≡◌, ◌<◌, ◌∙◌, List, ℕ, drop, length, length-drop, ap, arith}
use Rattle.http_front.specs.Flows.{flow}
use Rattle.http_front.proofs.FlowLemmas.{ended_behind, stops_behind, waits_on}
use Rattle.http_front.proofs.request_body.await_behind.Goals as goal

pub returns-in-Ok-false-clause-ok : goal.returns-in-Ok-false-clause-ok
returns-in-Ok-false-clause-ok g c =
    let h = rw c.in-Ok-false.field-0-test at c.in-Ok-false.ensures.ok in
    (ended_behind c.loop-wire.invariant.waits h.0, omega (arith, ap length h.1, length-drop c.args.at c.get_more.new.wire.pending.items))

pub returns-in-Err-clause-err : goal.returns-in-Err-clause-err
returns-in-Err-clause-err g c =
    let now = flow (g.I.Source.left c.get_more.new.input) (g.O.Sink.written c.get_more.new.output) c.get_more.new.wire in
    let P : List ℕ → Type 0 = λ bytes. bytes ≡ c.loop-wire.wire.pending.items in
    let Q : List ℕ → Type 0 = λ bytes. length (drop c.args.at bytes) < c.args.size in
    stops_behind now P Q c.in-Err.end c.loop-wire.invariant.waits (λ piece more is. omega (arith, ap length is, length-drop c.args.at c.get_more.new.wire.pending.items)) c.in-Err.ensures.err

pub loop-wire-preserved : goal.loop-wire-preserved
loop-wire-preserved g c =
    let h = rw c.in-Ok-true.field-0-test at c.in-Ok-true.ensures.ok in
    record {
      waits = waits_on c.loop-wire.invariant.waits h.0;
      within = omega (arith, h.1);
      reads = c.in-Ok-true.ensures.reads ∙ c.loop-wire.invariant.reads;
      writes = c.in-Ok-true.ensures.writes ∙ c.loop-wire.invariant.writes;
    }
