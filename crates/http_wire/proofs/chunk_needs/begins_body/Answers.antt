use Rattle.std.proofs.Common.{Bool, sym, subst}
use Rattle.std.specs.Prelude.{IsTrue, ◌↔◌}
use Rattle.http_wire.specs.ChunkedBody.{BeginsBody}
use Rattle.http_wire.proofs.BodyReadingLemmas.{begins_iff}
use Rattle.http_wire.proofs.chunk_needs.begins_body.Goals as goal

pub returns : goal.returns
returns c =
    subst (λ (b : Bool). IsTrue b ↔ BeginsBody c.args.bytes.now) (sym c.may_begin.ensures) (begins_iff c.args.bytes.now c.in_ok-needs.needs c.in_ok-needs.ensures)
