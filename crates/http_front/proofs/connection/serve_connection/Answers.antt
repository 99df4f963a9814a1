use Rattle.std.proofs.Common.{◌∙◌, ◌+◌, ◌≤◌, refl, arith}
use Rattle.http_front.specs.Flows.{flow}
use Rattle.http_front.proofs.ServingLemmas.{ends_at_nothing, ends_closed, ends_inside, ends_refused, ends_stopped, ends_unanswered, progress_on, progress_start}
use Rattle.http_front.proofs.BehindLemmas.{hundredth}
use Rattle.http_front.proofs.connection.serve_connection.Goals as goal

pub loop-request-init : goal.loop-request-init
loop-request-init g c =
    let start = flow (g.I.Source.left c.args.input.now) (g.O.Sink.written c.args.output.now) c.new-wire.result in
    record { progress = progress_start g.A.Answerer.answers start c.args.answerer.now c.new-wire.ensures.0 c.new-wire.ensures.1; reads = refl; writes = refl }

pub returns-in-Ok-NoMore-clause-served : goal.returns-in-Ok-NoMore-clause-served
returns-in-Ok-NoMore-clause-served g c =
    ends_at_nothing g.A.Answerer.answers _ c.loop-request.invariant.progress (rw c.in-Ok-NoMore.field-0-is at c.in-Ok-NoMore.ensures.ok)

pub returns-in-Ok-Cut-clause-served : goal.returns-in-Ok-Cut-clause-served
returns-in-Ok-Cut-clause-served g c =
    ends_inside g.A.Answerer.answers _ c.loop-request.invariant.progress (rw c.in-Ok-Cut.field-0-is at c.in-Ok-Cut.ensures.ok)

pub returns-in-Ok-Refused-clause-served : goal.returns-in-Ok-Refused-clause-served
returns-in-Ok-Refused-clause-served g c =
    ends_refused g.A.Answerer.answers _ c.in-Ok-Refused.status (g.O.Sink.written c.refuse.new.output) c.refuse.result c.loop-request.invariant.progress
    (rw c.in-Ok-Refused.field-0-is at c.in-Ok-Refused.ensures.ok) c.refuse.ensures.end

pub returns-in-Err-clause-served : goal.returns-in-Err-clause-served
returns-in-Err-clause-served g c =
    let now = flow (g.I.Source.left c.next_request.new.input) (g.O.Sink.written c.next_request.new.output) c.next_request.new.wire in
    ends_stopped g.A.Answerer.answers now c.in-Err.end c.loop-request.invariant.progress c.in-Err.ensures.err

pub returns-in-Err-answer_one-clause-served : goal.returns-in-Err-answer_one-clause-served
returns-in-Err-answer_one-clause-served g c =
    let h = rw c.in-Ok-Asked.field-0-is at c.in-Ok-Asked.ensures.ok in
    ends_unanswered g.A.Answerer.answers _ c.in-Ok-Asked.request _ c.answer_one.new.answerer c.loop-request.invariant.progress h c.in-Err-answer_one.ensures.err.1

pub returns-then-request-clause-served : goal.returns-then-request-clause-served
returns-then-request-clause-served g c =
    let h = rw c.in-Ok-Asked.field-0-is at c.in-Ok-Asked.ensures.ok in
    let a = c.in-Ok.ensures.ok in
    ends_closed g.A.Answerer.answers _ c.in-Ok-Asked.request a.0 c.answer_one.new.answerer c.answer_one.new.texts.items (g.O.Sink.written c.close.new.output) c.close.result c.loop-request.invariant.progress h
    a.1 a.2 a.3 c.if-request.true c.close.ensures.end

pub loop-request-smaller : goal.loop-request-smaller
loop-request-smaller g c =
    let h = rw c.in-Ok-Asked.field-0-is at c.in-Ok-Asked.ensures.ok in
    let few : c.loop-request.number + 1 ≤ 100 = hundredth c.loop-request.number _ c.in-Ok-Asked.request _ c.loop-request.invariant.progress.few h.comes c.if-request.false in
    omega arith

pub loop-request-preserved : goal.loop-request-preserved
loop-request-preserved g c =
    let h = rw c.in-Ok-Asked.field-0-is at c.in-Ok-Asked.ensures.ok in
    let a = c.in-Ok.ensures.ok in
    record {
      progress = progress_on g.A.Answerer.answers _ c.in-Ok-Asked.request a.0 c.answer_one.new.answerer c.answer_one.new.texts.items c.loop-request.invariant.progress h a.1 a.2 a.3 c.if-request.false;
      reads = c.in-Ok-Asked.ensures.reads ∙ c.loop-request.invariant.reads;
      writes = c.in-Ok-Asked.ensures.writes ∙ c.loop-request.invariant.writes;
    }
