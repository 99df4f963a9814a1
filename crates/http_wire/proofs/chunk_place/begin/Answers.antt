use Rattle.std.proofs.Common.{refl}
use Rattle.http_wire.proofs.ChunkPlacesLemmas.{begins_at}
use Rattle.http_wire.proofs.chunk_place.begin.Goals as goal

pub returns : goal.returns
returns c = begins_at _ refl
