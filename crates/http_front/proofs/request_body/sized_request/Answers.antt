use Rattle.std.proofs.Common.{List, ℕ, drop, refl, arith}
use Rattle.http_front.specs.declared.request_body.Coming.{Coming}
use Rattle.http_front.specs.Flows.{flow}
use Rattle.http_front.specs.Requests.{ComesSized}
use Rattle.http_front.proofs.FlowLemmas.{refused_here, waits_nothing}
use Rattle.http_front.proofs.request_body.sized_request.Goals as goal

pub returns-then-size-gt-MOST_BODY-clause-ok : goal.returns-then-size-gt-MOST_BODY-clause-ok
returns-then-size-gt-MOST_BODY-clause-ok g c =
    let P : List ℕ → Coming → List ℕ → Type 0 = λ bytes coming rest. ComesSized c.args.number c.args.head c.args.size (drop c.args.head.length bytes) coming rest in
    refused_here P 413 (waits_nothing (flow (g.I.Source.left c.args.input.now) (g.O.Sink.written c.args.output.now) c.args.wire.now)) (omega arith, refl)
