use Rattle.std.proofs.Common.{sym, ◌∙◌}
use Rattle.http_wire.proofs.ChunkPlacesLemmas.{value_steps, value_lf_steps, value_cr_steps}
use Rattle.http_wire.proofs.chunk_place.after_value.Goals as goal

pub returns-in-10 : goal.returns-in-10
returns-in-10 c = value_lf_steps c.args.byte c.in-10.is

pub returns-in-13 : goal.returns-in-13
returns-in-13 c = value_cr_steps c.args.byte c.in-13.is

pub returns-then-is_header_value_token : goal.returns-then-is_header_value_token
returns-then-is_header_value_token c = value_steps c.args.byte (sym c.is_header_value_token.ensures ∙ c.if-is_header_value_token.true)
