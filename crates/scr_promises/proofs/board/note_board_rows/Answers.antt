use Rattle.scr_promises.proofs.StillBoards.{board_rows}
use Rattle.scr_promises.proofs.board.note_board_rows.Goals as goal

pub returns : goal.returns
returns c = board_rows
