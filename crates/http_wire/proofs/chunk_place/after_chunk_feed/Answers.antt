use Rattle.http_wire.proofs.ChunkPlacesLemmas.{chunk_feed_steps}
use Rattle.http_wire.proofs.chunk_place.after_chunk_feed.Goals as goal

pub returns-then-byte-eq10 : goal.returns-then-byte-eq10
returns-then-byte-eq10 c = chunk_feed_steps c.args.byte c.if-byte-eq10.true
