use Rattle.std.proofs.Common.{subst}
use Rattle.hall_locked.specs.Locks.{IsLocked, LockedView}
use Rattle.hall_locked.proofs.Calls.{all_locked}
use Rattle.hall_locked.proofs.locked.Locked.note_kept.Goals as goal

pub returns-clause-kept : goal.returns-clause-kept
returns-clause-kept g c =
    let value : LockedView g.row.O.Denot = record { core = c.self.inside.own.core; owners = c.self.inside.own.owners; turns = c.self.inside.own.turns; parts = c.self.inside.own.parts; uses = c.self.inside.uses.items; keeper = c.self.inside.keeper } in
    subst (λ (l : LockedView g.row.O.Denot). IsLocked l) c.self.view_is (all_locked value c.note_kept.ensures.kept c.self.invariant.2 c.self.invariant.0)
