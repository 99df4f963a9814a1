use Rattle.std.proofs.Common.{arith}
use Rattle.http_wire.proofs.ChunkPlacesLemmas.{followed_last, followed_chunk}
use Rattle.http_wire.proofs.chunk_place.behind_line.Goals as goal

pub returns-then-size-eq0 : goal.returns-then-size-eq0
returns-then-size-eq0 c = (omega arith, followed_last c.args.size c.if-size-eq0.true)

pub returns-else-size-eq0 : goal.returns-else-size-eq0
returns-else-size-eq0 c = (omega arith, followed_chunk c.args.size (omega arith))
