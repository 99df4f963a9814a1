use Rattle.std.proofs.Common.{List, [], ℕ, drop, length-append, subst, sym, refl, arith}
use Rattle.std.proofs.lemmas.Result.{IfErr-weaker, IfOk-weaker}
use Rattle.http_wire.specs.declared.messages.HeadRead.TheVariants.{More, Whole, Bad, TooLarge, NotImplemented}
use Rattle.http_front.specs.declared.request_body.Coming.{Coming}
use Rattle.http_front.specs.declared.request_body.Coming.TheVariants.{Cut}
use Rattle.http_front.specs.Flows.{flow}
use Rattle.http_front.specs.Requests.{ComesBehind, ComesByHead}
use Rattle.http_front.proofs.BehindLemmas.{head_behind}
use Rattle.http_front.proofs.FlowLemmas.{come_at_end, come_behind, refused_here, some_still, stops_behind}
use Rattle.http_front.proofs.request_reading.read_request.Goals as goal

pub returns-in-More-clause-ok : goal.returns-in-More-clause-ok
returns-in-More-clause-ok g c =
    let h = rw c.in-More.is at c.in_ok-await_head.ensures.ok in
    come_at_end (ComesByHead c.args.number) (h.2 refl) (record { some = some_still h.0 c.requires; read = More; reads = h.1; comes = refl })

pub returns-in-Bad-clause-ok : goal.returns-in-Bad-clause-ok
returns-in-Bad-clause-ok g c =
    let h = rw c.in-Bad.is at c.in_ok-await_head.ensures.ok in
    refused_here (ComesByHead c.args.number) 400 h.0 (record { some = some_still h.0 c.requires; read = Bad; reads = h.1; comes = refl })

pub returns-in-TooLarge-clause-ok : goal.returns-in-TooLarge-clause-ok
returns-in-TooLarge-clause-ok g c =
    let h = rw c.in-TooLarge.is at c.in_ok-await_head.ensures.ok in
    refused_here (ComesByHead c.args.number) 431 h.0 (record { some = some_still h.0 c.requires; read = TooLarge; reads = h.1; comes = refl })

pub returns-in-NotImplemented-clause-ok : goal.returns-in-NotImplemented-clause-ok
returns-in-NotImplemented-clause-ok g c =
    let h = rw c.in-NotImplemented.is at c.in_ok-await_head.ensures.ok in
    refused_here (ComesByHead c.args.number) 501 h.0 (record { some = some_still h.0 c.requires; read = NotImplemented; reads = h.1; comes = refl })

pub returns-in-Whole-clause-ok : goal.returns-in-Whole-clause-ok
returns-in-Whole-clause-ok g c =
    let h = rw c.in-Whole.is at c.in_ok-await_head.ensures.ok in
    let head = c.in-Whole.head in
    let pending = c.await_head.new.wire.pending.items in
    let P : List ℕ → Coming → List ℕ → Type 0 = λ bytes coming rest. ComesBehind c.args.number head head.framing (drop head.length bytes) coming rest in
    IfOk-weaker c.next_body.result _ _
    (λ coming. come_behind P (ComesByHead c.args.number) coming h.0
    (λ piece comes. record { some = omega (arith, some_still h.0 c.requires, length-append pending piece); read = Whole head; reads = head_behind pending piece head h.1; comes = comes }))
    c.next_body.ensures.ok

pub returns-in-Whole-clause-err : goal.returns-in-Whole-clause-err
returns-in-Whole-clause-err g c =
    let h = rw c.in-Whole.is at c.in_ok-await_head.ensures.ok in
    let head = c.in-Whole.head in
    let pending = c.await_head.new.wire.pending.items in
    let now = flow (g.I.Source.left c.next_body.new.input) (g.O.Sink.written c.next_body.new.output) c.next_body.new.wire in
    let P : List ℕ → Type 0 = λ bytes. ComesBehind c.args.number head head.framing (drop head.length bytes) Cut [] in
    let Q : List ℕ → Type 0 = λ bytes. ComesByHead c.args.number bytes Cut [] in
    IfErr-weaker c.next_body.result _ _
    (λ end. stops_behind now P Q end h.0
    (λ piece is comes. subst Q (sym is) (record { some = omega (arith, some_still h.0 c.requires, length-append pending piece); read = Whole head; reads = head_behind pending piece head h.1; comes = subst P is comes })))
    c.next_body.ensures.err
