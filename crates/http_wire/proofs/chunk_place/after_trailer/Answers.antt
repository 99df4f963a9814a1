use Rattle.std.proofs.Common.{sym, ◌∙◌}
use Rattle.http_wire.proofs.ChunkPlacesLemmas.{trailer_steps, trailer_cr_steps}
use Rattle.http_wire.proofs.chunk_place.after_trailer.Goals as goal

pub returns-then-byte-eq13 : goal.returns-then-byte-eq13
returns-then-byte-eq13 c = trailer_cr_steps c.args.byte c.if-byte-eq13.true

pub returns-then-is_method_token : goal.returns-then-is_method_token
returns-then-is_method_token c = trailer_steps c.args.byte (sym c.is_method_token.ensures ∙ c.if-is_method_token.true)
