use Rattle.std.proofs.Common.{◌∙◌, sym, arith}
use Rattle.scr_readers.proofs.TurnLemmas.{kept_above}
use Rattle.scr_readers.proofs.turn_lines.turns_above.Goals as goal

pub returns : goal.returns
returns c = c.lines_behind.ensures ∙ sym (kept_above c.args.number 1 c.args.number c.args.lines.now c.requires (omega arith))
