use Rattle.scr_laws.proofs.WithinLaws.{all_within}
use Rattle.scr_laws.proofs.limits.note_limits.Goals as goal

pub returns : goal.returns
returns c = all_within
