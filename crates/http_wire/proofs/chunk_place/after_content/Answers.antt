use Rattle.std.proofs.Common.{arith}
use Rattle.http_wire.proofs.ChunkPlacesLemmas.{content_steps, content_ends}
use Rattle.http_wire.proofs.chunk_place.after_content.Goals as goal

pub returns-in-1 : goal.returns-in-1
returns-in-1 c = content_ends c.args.left c.args.byte c.in-1.is

pub returns-in_default : goal.returns-in_default
returns-in_default c = content_steps c.args.left c.args.byte (omega arith)
