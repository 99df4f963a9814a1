use Rattle.std.proofs.Common.{ℕ, List, [], ◌∷◌, ◌++◌, ap, ◌∙◌, subst, sym}
use Rattle.hall_locked.specs.Locks.{AppendsFor, HasGates, LockedView}
use Rattle.hall_locked.specs.OwnedCores.{OwnedView, log_owned}
use Rattle.hall_locked.specs.Uses.{AreKeptGets}
use Rattle.hall_locked.proofs.Getting.{got_gates}
use Rattle.hall_locked.proofs.Uses.{got_uses}
use Rattle.platform_hall.specs.Platforms.{world}
use Rattle.hall_locked.proofs.locked.Locked.get.Goals as goal

pub invariant_of-self-in-Ok : goal.invariant_of-self-in-Ok
invariant_of-self-in-Ok g c =
    let own = c.self.inside.own in
    let after = c.get.new.self in
    let place = ap (λ (n : ℕ). c.self.inside.uses.items ++ (c.args.owner, n) ∷ []) c.place.ensures in
    let more = c.push_reserved.ensures.items ∙ ap (λ (us : List (ℕ × ℕ)). us ++ (c.args.owner, c.place.result) ∷ []) c.reserve.ensures.items ∙ place in (
      got_gates own.core after.core c.note_kept.ensures.legal c.self.inside.keeper c.self.invariant.0 c.args.bundle c.args.service c.in-Ok.note c.in-Ok.ensures.answer,
      c.self.invariant.1,
      subst (λ (us : List (ℕ × ℕ)). AreKeptGets (log_owned after) us) (sym more)
          (got_uses c.args.owner own after c.in-Ok.ensures.appended c.self.inside.uses.items c.self.invariant.2 c.args.bundle c.args.service c.in-Ok.note c.note_kept.ensures.kept.owners c.in-Ok.ensures.answer),
    )

pub returns-in-Ok-clause-appended : goal.returns-in-Ok-clause-appended
returns-in-Ok-clause-appended g c =
    let own = c.get.new.self in
    subst (λ (l : LockedView g.row.O.Denot). AppendsFor c.args.owner l (record { core = own.core; owners = own.owners; turns = own.turns; parts = own.parts; uses = c.push_reserved.new.self.items; keeper = c.self.inside.keeper })) c.self.view_is c.in-Ok.ensures.appended

pub returns-in-Ok-clause-uses : goal.returns-in-Ok-clause-uses
returns-in-Ok-clause-uses g c =
    c.push_reserved.ensures.items
    ∙ ap (λ (us : List (ℕ × ℕ)). us ++ (c.args.owner, c.place.result) ∷ []) c.reserve.ensures.items
    ∙ ap (λ (n : ℕ). c.self.inside.uses.items ++ (c.args.owner, n) ∷ []) c.place.ensures
    ∙ ap (λ (l : LockedView g.row.O.Denot). l.uses ++ (c.args.owner, c.in-Ok.note.place) ∷ []) c.self.view_is

pub invariant_of-self-in-Err : goal.invariant_of-self-in-Err
invariant_of-self-in-Err g c = (
  subst (λ (l : OwnedView g.row.O.Denot). HasGates (world l.core) c.self.inside.keeper) (sym c.in-Err.ensures.refused) c.self.invariant.0,
  c.self.invariant.1,
  subst (λ (us : List (ℕ × ℕ)). AreKeptGets (log_owned c.get.new.self) us) (sym c.reserve.ensures.items)
      (subst (λ (l : OwnedView g.row.O.Denot). AreKeptGets (log_owned l) c.self.inside.uses.items) (sym c.in-Err.ensures.refused) c.self.invariant.2),
)

pub returns-in-Err-clause-appended : goal.returns-in-Err-clause-appended
returns-in-Err-clause-appended g c =
    let own = c.get.new.self in
    subst (λ (l : LockedView g.row.O.Denot). AppendsFor c.args.owner l (record { core = own.core; owners = own.owners; turns = own.turns; parts = own.parts; uses = c.reserve.new.self.items; keeper = c.self.inside.keeper })) c.self.view_is c.in-Err.ensures.appended

pub returns-in-Err-clause-refused : goal.returns-in-Err-clause-refused
returns-in-Err-clause-refused g c =
    let own = c.self.inside.own in
    ap (λ (l : OwnedView g.row.O.Denot). record { core = l.core; owners = l.owners; turns = l.turns; parts = l.parts; uses = c.reserve.new.self.items; keeper = c.self.inside.keeper }) c.in-Err.ensures.refused
    ∙ ap (λ (us : List (ℕ × ℕ)). record { core = own.core; owners = own.owners; turns = own.turns; parts = own.parts; uses = us; keeper = c.self.inside.keeper }) c.reserve.ensures.items
    ∙ c.self.view_is
