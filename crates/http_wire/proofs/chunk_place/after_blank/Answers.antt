use Rattle.std.proofs.Common.{sym, ◌∙◌}
use Rattle.http_wire.proofs.ChunkPlacesLemmas.{blank_steps, semicolon_steps, blank_cr_steps}
use Rattle.http_wire.proofs.chunk_place.after_blank.Goals as goal

pub returns-then-is_space_or_tab : goal.returns-then-is_space_or_tab
returns-then-is_space_or_tab c = blank_steps c.args.size c.args.byte (sym c.is_space_or_tab.ensures ∙ c.if-is_space_or_tab.true)

pub returns-in-59 : goal.returns-in-59
returns-in-59 c = semicolon_steps c.args.size c.args.byte c.in-59.is

pub returns-in-13 : goal.returns-in-13
returns-in-13 c = blank_cr_steps c.args.size c.args.byte c.in-13.is
