use Rattle.scr_readers.proofs.CountedTurns.{counted_legal}
use Rattle.scr_readers.proofs.turn_lines.note_turn_lines.Goals as goal

pub returns : goal.returns
returns c = counted_legal
