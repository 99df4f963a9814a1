use Rattle.std.proofs.Common.{◌++◌, List, [], ℕ, inr}
use Rattle.std.proofs.lemmas.Result.{IfErr-weaker, IfOk-weaker}
use Rattle.http_front.specs.declared.request_body.Coming.TheVariants.{Cut}
use Rattle.http_front.specs.Connections.{IsUnfinished}
use Rattle.http_front.specs.Flows.{flow}
use Rattle.http_front.specs.Requests.{Comes, ComesByHead}
use Rattle.http_front.proofs.BehindLemmas.{by_head}
use Rattle.http_front.proofs.FlowLemmas.{come_behind, stops_behind}
use Rattle.http_front.proofs.request_reading.next_request.Goals as goal

pub returns-in-Ok-true-clause-ok : goal.returns-in-Ok-true-clause-ok
returns-in-Ok-true-clause-ok g c =
    let h = rw c.in-Ok-true.field-0-test at c.in-Ok-true.ensures.ok in
    let rest = c.read_request.new.wire.pending.items in
    let pending = c.await_some.new.wire.pending.items in
    IfOk-weaker c.read_request.result _ _
    (λ coming. come_behind (ComesByHead c.args.number) (Comes c.args.number) coming h.0 (λ piece. by_head c.args.number (pending ++ piece) coming rest))
    c.read_request.ensures.ok

pub returns-in-Ok-true-clause-err : goal.returns-in-Ok-true-clause-err
returns-in-Ok-true-clause-err g c =
    let h = rw c.in-Ok-true.field-0-test at c.in-Ok-true.ensures.ok in
    let now = flow (g.I.Source.left c.read_request.new.input) (g.O.Sink.written c.read_request.new.output) c.read_request.new.wire in
    let P : List ℕ → Type 0 = λ bytes. ComesByHead c.args.number bytes Cut [] in
    IfErr-weaker c.read_request.result _ _
    (λ end. stops_behind now P (IsUnfinished c.args.number) end h.0 (λ piece is comes. inr comes))
    c.read_request.ensures.err
