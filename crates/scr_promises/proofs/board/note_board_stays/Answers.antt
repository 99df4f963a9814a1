use Rattle.scr_promises.proofs.StillBoards.{board_stays}
use Rattle.scr_promises.proofs.board.note_board_stays.Goals as goal

pub returns : goal.returns
returns c = board_stays
