use Rattle.std.proofs.Common.{ℕ, List, ap, ◌∙◌, subst, sym}
use Rattle.hall_locked.specs.Locks.{AppendsFor, HasGates, LockedView}
use Rattle.hall_locked.specs.Owned.{without_use}
use Rattle.hall_locked.specs.OwnedCores.{OwnedView, log_owned}
use Rattle.hall_locked.specs.Uses.{AreKeptGets}
use Rattle.hall_locked.proofs.Getting.{released_gates}
use Rattle.hall_locked.proofs.Uses.{released_uses}
use Rattle.platform_hall.specs.Platforms.{world}
use Rattle.hall_locked.proofs.locked.Locked.release.Goals as goal

pub invariant_of-self : goal.invariant_of-self
invariant_of-self g c =
    let own = c.self.inside.own in
    let after = c.release.new.self in
    let left = c.let_use_go.ensures ∙ ap (λ (n : ℕ). without_use n c.self.inside.uses.items) c.place-place.ensures in (
      released_gates own.core after.core c.note_kept.ensures.legal c.self.inside.keeper c.self.invariant.0 c.args.note c.in-Ok.stood c.in-Ok.ensures.released,
      c.self.invariant.1,
      subst (λ (us : List (ℕ × ℕ)). AreKeptGets (log_owned after) us) (sym left)
          (released_uses c.args.owner own after c.in-Ok.ensures.appended c.self.inside.uses.items c.self.invariant.2 c.args.note c.in-Ok.stood c.in-Ok.ensures.released),
    )

pub returns-in-Ok-clause-appended : goal.returns-in-Ok-clause-appended
returns-in-Ok-clause-appended g c =
    let own = c.release.new.self in
    subst (λ (l : LockedView g.row.O.Denot). AppendsFor c.args.owner l (record { core = own.core; owners = own.owners; turns = own.turns; parts = own.parts; uses = c.let_use_go.new.uses.items; keeper = c.self.inside.keeper })) c.self.view_is c.in-Ok.ensures.appended

pub returns-in-Ok-clause-uses : goal.returns-in-Ok-clause-uses
returns-in-Ok-clause-uses g c =
    c.let_use_go.ensures
    ∙ ap (λ (n : ℕ). without_use n c.self.inside.uses.items) c.place-place.ensures
    ∙ ap (λ (l : LockedView g.row.O.Denot). without_use c.args.note.place l.uses) c.self.view_is

pub invariant_of-self-in-Err : goal.invariant_of-self-in-Err
invariant_of-self-in-Err g c = (
  subst (λ (l : OwnedView g.row.O.Denot). HasGates (world l.core) c.self.inside.keeper) (sym c.in-Err.ensures.err) c.self.invariant.0,
  c.self.invariant.1,
  subst (λ (l : OwnedView g.row.O.Denot). AreKeptGets (log_owned l) c.self.inside.uses.items) (sym c.in-Err.ensures.err) c.self.invariant.2,
)

pub returns-in-Err-clause-appended : goal.returns-in-Err-clause-appended
returns-in-Err-clause-appended g c =
    let own = c.release.new.self in
    subst (λ (l : LockedView g.row.O.Denot). AppendsFor c.args.owner l (record { core = own.core; owners = own.owners; turns = own.turns; parts = own.parts; uses = c.self.inside.uses.items; keeper = c.self.inside.keeper })) c.self.view_is c.in-Err.ensures.appended

pub returns-in-Err-clause-err : goal.returns-in-Err-clause-err
returns-in-Err-clause-err g c =
    ap (λ (l : OwnedView g.row.O.Denot). record { core = l.core; owners = l.owners; turns = l.turns; parts = l.parts; uses = c.self.inside.uses.items; keeper = c.self.inside.keeper }) c.in-Err.ensures.err ∙ c.self.view_is
