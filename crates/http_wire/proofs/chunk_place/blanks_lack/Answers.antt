use Rattle.http_wire.proofs.ChunkPlacesLemmas.{blanks_lack}
use Rattle.http_wire.proofs.chunk_place.blanks_lack.Goals as goal

pub returns : goal.returns
returns c = blanks_lack c.args.size c.in_ok-behind.behind c.in_ok-behind.ensures.1
