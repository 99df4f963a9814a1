use Rattle.std.proofs.Common.{arith}
use Rattle.http_wire.proofs.ChunkPlacesLemmas.{digit_steps}
use Rattle.http_wire.proofs.chunk_place.after_digit.Goals as goal

pub returns-else-number : goal.returns-else-number
returns-else-number c = digit_steps c.args.count c.args.number c.args.byte _ c.in-Some.ensures.0 c.in-Some.ensures.1 (omega arith)
