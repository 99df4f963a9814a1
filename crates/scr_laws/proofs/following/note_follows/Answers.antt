use Rattle.scr_laws.proofs.FollowingEntries.{follows}
use Rattle.scr_laws.proofs.following.note_follows.Goals as goal

pub returns : goal.returns
returns c = follows
