use Rattle.std.proofs.Common.{inl, inr, arith}
use Rattle.scr_readers.proofs.TurnLemmas.{end_set, end_none}
use Rattle.scr_readers.proofs.turn_lines.end_turn.Goals as goal
use Rattle.scr_readers.proofs.turn_lines.end_turn.Goals.{else-turn-ne0-via-then-turn-ne0+else-turn-lines, else-turn-ne0-via-else-turn-ne0}

pub returns-then-turn-lines : goal.returns-then-turn-lines
returns-then-turn-lines c = end_set c.args.turn c.args.outcome c.args.lines.now c.index-lines-turn.result c.requires (omega arith) (omega arith)

pub returns-else-turn-ne0 : goal.returns-else-turn-ne0
returns-else-turn-ne0 c =
    elim c.else-turn-ne0.branch [
      | else-turn-ne0-via-then-turn-ne0+else-turn-lines w ↦ end_none c.args.turn c.args.outcome c.args.lines.now c.requires (inr (omega arith))
      | else-turn-ne0-via-else-turn-ne0 w ↦ end_none c.args.turn c.args.outcome c.args.lines.now c.requires (inl (omega arith))
    ]
