use Rattle.std.proofs.Common.{arith}
use Rattle.std.proofs.lemmas.Bool.Decides.{nat_tests}
use Rattle.http_wire.proofs.ChunkPlacesLemmas.{shown_steps, shown_cr_steps}
use Rattle.http_wire.proofs.chunk_place.after_extension.Goals as goal

pub returns-in-13 : goal.returns-in-13
returns-in-13 c = shown_cr_steps c.args.size c.args.byte c.in-13.is

pub returns-in_default : goal.returns-in_default
returns-in_default c = shown_steps c.args.size c.args.byte (grind (arith, nat_tests))
