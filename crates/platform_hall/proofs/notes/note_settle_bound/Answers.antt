use Rattle.platform_hall.proofs.Bounded.{settled_bounded}
use Rattle.platform_hall.proofs.notes.note_settle_bound.Goals as goal

pub returns : goal.returns
returns c = λ refuses before after answer legal names settles. settled_bounded refuses before after answer legal names settles
