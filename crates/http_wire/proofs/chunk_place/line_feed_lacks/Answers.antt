use Rattle.http_wire.proofs.ChunkPlacesLemmas.{line_feed_lacks}
use Rattle.http_wire.proofs.chunk_place.line_feed_lacks.Goals as goal

pub returns : goal.returns
returns c = line_feed_lacks c.args.size c.in_ok-behind.behind c.in_ok-behind.ensures.1
