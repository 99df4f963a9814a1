use Rattle.http_wire.proofs.ChunkPlacesLemmas.{extension_lacks}
use Rattle.http_wire.proofs.chunk_place.extension_lacks.Goals as goal

pub returns : goal.returns
returns c = extension_lacks c.args.size c.in_ok-behind.behind c.in_ok-behind.ensures.1
