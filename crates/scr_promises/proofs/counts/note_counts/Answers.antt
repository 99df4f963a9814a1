use Rattle.scr_promises.proofs.CountLaws.{count_rightly}
use Rattle.scr_promises.proofs.counts.note_counts.Goals as goal

pub returns : goal.returns
returns c = count_rightly
