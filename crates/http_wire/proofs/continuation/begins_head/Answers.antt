use Rattle.std.proofs.Common.{◌≡◌, ◌∙◌, sym, length}
use Rattle.std.proofs.lemmas.Bool.{false≢true}
use Rattle.std.proofs.lemmas.Result.{IfOk-weaker}
use Rattle.http_wire.proofs.ContinuationLemmas.{begins_by_end}
use Rattle.http_wire.proofs.continuation.begins_head.Goals as goal

pub returns : goal.returns
returns c =
    let one : length c.deref_mut.result.now ≡ 16384 = c.deref_mut.ensures.len ∙ c.in_ok-resize.ensures.len in
    let two : length c.deref_mut-2.result.now ≡ 16384 = c.deref_mut-2.ensures.len ∙ c.in_ok-resize.ensures.len in
    IfOk-weaker c.has_end.result _ _
    (begins_by_end c.args.bytes.now _ _ one two
    (λ i. false≢true (sym c.if-ends_inside.false ∙ c.ends_inside.ensures.1 i))
    (λ w. false≢true (sym c.if-is_head.false ∙ c.is_head.ensures.1 w)) c.requires)
    c.has_end.ensures
