use Rattle.scr_promises.proofs.GetLaws.{got_go_on}
use Rattle.scr_promises.proofs.gets.note_gets.Goals as goal

pub returns : goal.returns
returns c = got_go_on
