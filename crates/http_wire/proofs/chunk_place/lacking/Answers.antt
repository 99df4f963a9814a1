use Rattle.http_wire.proofs.ChunkPlacesLemmas.{chunk_end_lacks, chunk_feed_lacks, trailer_lacks, name_lacks, value_lacks, value_feed_lacks, last_feed_lacks}
use Rattle.http_wire.proofs.chunk_place.lacking.Goals as goal

pub returns-in-ChunkEnd : goal.returns-in-ChunkEnd
returns-in-ChunkEnd c = rw c.in-ChunkEnd.is chunk_end_lacks

pub returns-in-ChunkFeed : goal.returns-in-ChunkFeed
returns-in-ChunkFeed c = rw c.in-ChunkFeed.is chunk_feed_lacks

pub returns-in-Trailer : goal.returns-in-Trailer
returns-in-Trailer c = rw c.in-Trailer.is trailer_lacks

pub returns-in-Name : goal.returns-in-Name
returns-in-Name c = rw c.in-Name.is name_lacks

pub returns-in-Value : goal.returns-in-Value
returns-in-Value c = rw c.in-Value.is value_lacks

pub returns-in-ValueFeed : goal.returns-in-ValueFeed
returns-in-ValueFeed c = rw c.in-ValueFeed.is value_feed_lacks

pub returns-in-LastFeed : goal.returns-in-LastFeed
returns-in-LastFeed c = rw c.in-LastFeed.is last_feed_lacks
