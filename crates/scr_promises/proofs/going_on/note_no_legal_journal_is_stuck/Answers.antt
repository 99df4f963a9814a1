use Rattle.scr_promises.proofs.Going.{is_not_stuck}
use Rattle.scr_promises.proofs.going_on.note_no_legal_journal_is_stuck.Goals as goal

pub returns : goal.returns
returns c = is_not_stuck
