use Rattle.std.proofs.Common.{◌∙◌, List, ℕ, drop, length-drop, sym, refl, inl, inr, arith}
use Rattle.std.proofs.lemmas.List.{drop-drop}
use Rattle.http_front.specs.declared.request_body.Coming.{Coming}
use Rattle.http_front.specs.Requests.{ComesChunked}
use Rattle.http_front.proofs.BehindLemmas.{body_fits}
use Rattle.http_front.proofs.FlowLemmas.{asked_here, at_least, refused_here}
use Rattle.http_front.proofs.request_body.chunked_request.Goals as goal

pub drop_front-requires : goal.drop_front-requires
drop_front-requires g c =
    let h = rw c.in-Whole.is at c.in_ok-await_chunks.ensures.ok in
    let all = c.await_chunks.new.wire.pending.items in
    omega (arith, c.requires, at_least h.0, body_fits (drop c.args.head.length all) c.in-Whole.body c.in-Whole.length h.1, length-drop c.args.head.length all)

pub returns-in-Bad-clause-ok : goal.returns-in-Bad-clause-ok
returns-in-Bad-clause-ok g c =
    let h = rw c.in-Bad.is at c.in_ok-await_chunks.ensures.ok in
    let P : List ℕ → Coming → List ℕ → Type 0 = λ bytes coming rest. ComesChunked c.args.number c.args.head (drop c.args.head.length bytes) coming rest in
    refused_here P 400 h.0 (inl (h.1, refl))

pub returns-in-TooLarge-clause-ok : goal.returns-in-TooLarge-clause-ok
returns-in-TooLarge-clause-ok g c =
    let h = rw c.in-TooLarge.is at c.in_ok-await_chunks.ensures.ok in
    let P : List ℕ → Coming → List ℕ → Type 0 = λ bytes coming rest. ComesChunked c.args.number c.args.head (drop c.args.head.length bytes) coming rest in
    refused_here P 413 h.0 (inr (h.1, refl))

pub returns-in-Whole-clause-ok : goal.returns-in-Whole-clause-ok
returns-in-Whole-clause-ok g c =
    let h = rw c.in-Whole.is at c.in_ok-await_chunks.ensures.ok in
    let all = c.await_chunks.new.wire.pending.items in
    let P : List ℕ → Coming → List ℕ → Type 0 = λ bytes coming rest. ComesChunked c.args.number c.args.head (drop c.args.head.length bytes) coming rest in
    asked_here P c.request_of.result h.0 refl refl refl
    (c.in-Whole.body, c.in-Whole.length, h.1, c.request_of.ensures, c.drop_front.ensures ∙ sym (drop-drop c.in-Whole.length c.args.head.length all))
