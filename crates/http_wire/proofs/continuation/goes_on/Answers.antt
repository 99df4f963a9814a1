use Rattle.std.proofs.Common.{◌∙◌, sym}
use Rattle.std.proofs.lemmas.Bool.{false≢true}
use Rattle.std.proofs.lemmas.Result.{IfOk-weaker}
use Rattle.http_wire.proofs.ContinuationLemmas.{goes_on_from_end, end_from_goes_on}
use Rattle.http_wire.proofs.continuation.goes_on.Goals as goal

pub returns : goal.returns
returns c =
    IfOk-weaker c.has_end.result _ _
    (λ b h. (
      λ yes. goes_on_from_end c.args.bytes.now (h.0 yes),
      λ g. h.1 (end_from_goes_on c.args.bytes.now (λ i. false≢true (sym c.if-is_inside_with_room.false ∙ c.is_inside_with_room.ensures.1 i)) g),
    ))
    c.has_end.ensures
