use Rattle.std.proofs.Common.{arith}
use Rattle.http_wire.proofs.ChunkPlacesLemmas.{first_lacks, digits_lack}
use Rattle.http_wire.proofs.chunk_place.digits_lack.Goals as goal

pub returns-then-number-eq0 : goal.returns-then-number-eq0
returns-then-number-eq0 c = first_lacks c.args.count c.args.number c.if-count-eq0.true c.if-number-eq0.true

pub returns : goal.returns
returns c = digits_lack c.args.count c.args.number c.in_ok-behind.behind (omega arith) (omega arith) c.in_ok-behind.ensures.1
