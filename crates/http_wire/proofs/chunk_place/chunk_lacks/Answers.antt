use Rattle.http_wire.proofs.ChunkPlacesLemmas.{chunk_lacks}
use Rattle.http_wire.proofs.chunk_place.chunk_lacks.Goals as goal

pub returns : goal.returns
returns c = chunk_lacks c.args.left
