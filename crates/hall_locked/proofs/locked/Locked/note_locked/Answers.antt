use Rattle.std.proofs.Common.{subst}
use Rattle.hall_locked.specs.Locks.{KnowsGates, LockedView}
use Rattle.hall_locked.proofs.Calls.{knows_now}
use Rattle.platform_hall.specs.Platforms.{world}
use Rattle.hall_locked.proofs.locked.Locked.note_locked.Goals as goal

pub returns : goal.returns
returns g c =
    subst (λ (l : LockedView g.row.O.Denot). KnowsGates (world l.core) l.keeper) c.self.view_is
    (knows_now c.self.inside.own.core c.note_kept.ensures.legal c.self.inside.keeper c.note_orderly.ensures c.self.invariant.0)
