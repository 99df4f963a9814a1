use Rattle.http_wire.proofs.ChunkPlacesLemmas.{ends_after}
use Rattle.http_wire.proofs.chunk_place.after.Goals as goal

pub returns : goal.returns
returns c = λ bytes e. ends_after bytes c.args.reached.place _ c.args.reached.size c.args.byte _ e c.next_place-place.ensures (c.gain-gained.ensures.is c.args.byte)
