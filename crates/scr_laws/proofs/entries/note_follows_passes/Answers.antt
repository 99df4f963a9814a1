use Rattle.scr_laws.proofs.Passing.{follows_passes}
use Rattle.scr_laws.proofs.entries.note_follows_passes.Goals as goal

pub returns : goal.returns
returns c = follows_passes
