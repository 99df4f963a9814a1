use Rattle.std.proofs.Common.{sym, ◌∙◌}
use Rattle.http_wire.proofs.ChunkPlacesLemmas.{name_steps, colon_steps}
use Rattle.http_wire.proofs.chunk_place.after_name.Goals as goal

pub returns-then-byte-eq58 : goal.returns-then-byte-eq58
returns-then-byte-eq58 c = colon_steps c.args.byte c.if-byte-eq58.true

pub returns-then-is_method_token : goal.returns-then-is_method_token
returns-then-is_method_token c = name_steps c.args.byte (sym c.is_method_token.ensures ∙ c.if-is_method_token.true)
