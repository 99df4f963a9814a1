use Rattle.std.proofs.Common.{Bool, sym, subst, arith}
use Rattle.std.specs.Prelude.{IsTrue, ◌↔◌}
use Rattle.http_wire.specs.ChunkedBody.{IsLessBody}
use Rattle.http_wire.proofs.BodyReadingLemmas.{less_iff}
use Rattle.http_wire.proofs.chunk_needs.is_less_body.Goals as goal

pub returns : goal.returns
returns c =
    subst (λ (b : Bool). IsTrue b ↔ IsLessBody c.args.bytes.now) (sym c.leaves_room.ensures) (less_iff c.args.bytes.now c.in_ok-needs.needs c.in_ok-needs.ensures (omega arith))
