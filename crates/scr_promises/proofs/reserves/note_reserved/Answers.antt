use Rattle.scr_promises.proofs.ReserveLaws.{is_reserved_by}
use Rattle.scr_promises.proofs.reserves.note_reserved.Goals as goal

pub returns : goal.returns
returns c = is_reserved_by
