use Rattle.std.proofs.Common.{ap, ◌∙◌, Option, refl, subst, sym}
use Rattle.call_gate.specs.Holders.{HeldKey}
use Rattle.gate_keeper.specs.Keepers.{KeeperView, TakesFirst, is_some_key}
use Rattle.hall_locked.specs.Locks.{AppendsFor, HasGates, LockedView, PostsOne}
use Rattle.hall_locked.specs.OwnedCores.{OwnedView, log_owned}
use Rattle.hall_locked.specs.Uses.{AreKeptGets}
use Rattle.hall_locked.proofs.Appends.{appends_none}
use Rattle.hall_locked.proofs.Calls.{awaited_now, back_can, back_is, owed_now, posted_none, posted_one, posts_keep}
use Rattle.hall_locked.proofs.Uses.{drain_uses}
use Rattle.platform_hall.specs.Platforms.{world}
use Rattle.hall_locked.proofs.locked.Locked.post.Goals as goal

-- ---- nothing is on the shelf

pub invariant_of-self : goal.invariant_of-self
invariant_of-self g c =
    let none = subst (λ (o : Option HeldKey). TakesFirst o c.self.inside.keeper c.take_drain.new.self) c.in_default.is c.take_drain.ensures in (
      subst (λ (k : KeeperView). HasGates (world c.self.inside.own.core) k) (sym none.1) c.self.invariant.0,
      ap (λ (k : KeeperView). k.gate) none.1 ∙ c.self.invariant.1,
      c.self.invariant.2,
    )

pub returns-in_default-clause-posted : goal.returns-in_default-clause-posted
returns-in_default-clause-posted g c =
    let none = subst (λ (o : Option HeldKey). TakesFirst o c.self.inside.keeper c.take_drain.new.self) c.in_default.is c.take_drain.ensures in
    let own = c.self.inside.own in
    let before : LockedView g.row.O.Denot = record { core = own.core; owners = own.owners; turns = own.turns; parts = own.parts; uses = c.self.inside.uses.items; keeper = c.self.inside.keeper } in
    let after : LockedView g.row.O.Denot = record { core = own.core; owners = own.owners; turns = own.turns; parts = own.parts; uses = c.self.inside.uses.items; keeper = c.take_drain.new.self } in
    subst (λ (l : LockedView g.row.O.Denot). PostsOne l after) c.self.view_is (posted_none before after none.0 (ap (λ (k : KeeperView). record before { keeper = k }) none.1))

pub returns-in_default-clause-appended : goal.returns-in_default-clause-appended
returns-in_default-clause-appended g c =
    let own = c.self.inside.own in
    subst (λ (l : LockedView g.row.O.Denot). AppendsFor c.args.owner l (record { core = own.core; owners = own.owners; turns = own.turns; parts = own.parts; uses = c.self.inside.uses.items; keeper = c.take_drain.new.self })) c.self.view_is (appends_none c.args.owner own own refl refl)

pub returns-in_default-clause-owed : goal.returns-in_default-clause-owed
returns-in_default-clause-owed g c =
    let none = subst (λ (o : Option HeldKey). TakesFirst o c.self.inside.keeper c.take_drain.new.self) c.in_default.is c.take_drain.ensures in
    sym (ap is_some_key none.0) ∙ owed_now c.self.inside.own.core c.note_kept.ensures.legal c.self.inside.keeper c.note_orderly.ensures c.self.invariant.0

-- ---- a drain is posted

pub post-requires : goal.post-requires
post-requires g c =
    let takes = subst (λ (o : Option HeldKey). TakesFirst o c.self.inside.keeper c.take_drain.new.self) c.in-Some.is c.take_drain.ensures in
    record { awaits = awaited_now c.self.inside.own.core c.note_kept.ensures.legal c.self.inside.keeper c.note_orderly.ensures c.self.invariant.0 c.in-Some.drain c.take_drain.new.self takes }

pub invariant_of-self-in-Ok : goal.invariant_of-self-in-Ok
invariant_of-self-in-Ok g c =
    let takes = subst (λ (o : Option HeldKey). TakesFirst o c.self.inside.keeper c.take_drain.new.self) c.in-Some.is c.take_drain.ensures in
    let kept = posts_keep c.self.inside.own.core c.post.new.self.core c.in-Some.drain c.note_kept.ensures.legal c.self.inside.keeper c.take_drain.new.self c.self.inside.gate c.self.invariant.1 c.self.invariant.0 takes c.in-Ok.ensures.posted in
    (kept.0, kept.1, drain_uses c.args.owner c.self.inside.own c.post.new.self c.in-Ok.ensures.appended c.self.inside.uses.items c.self.invariant.2 c.in-Some.drain.key c.in-Ok.ensures.posted)

pub returns-in-Ok-clause-posted : goal.returns-in-Ok-clause-posted
returns-in-Ok-clause-posted g c =
    let takes = subst (λ (o : Option HeldKey). TakesFirst o c.self.inside.keeper c.take_drain.new.self) c.in-Some.is c.take_drain.ensures in
    let own = c.self.inside.own in
    let now = c.post.new.self in
    let before : LockedView g.row.O.Denot = record { core = own.core; owners = own.owners; turns = own.turns; parts = own.parts; uses = c.self.inside.uses.items; keeper = c.self.inside.keeper } in
    let after : LockedView g.row.O.Denot = record { core = now.core; owners = now.owners; turns = now.turns; parts = now.parts; uses = c.self.inside.uses.items; keeper = c.take_drain.new.self } in
    subst (λ (l : LockedView g.row.O.Denot). PostsOne l after) c.self.view_is (posted_one before after c.in-Some.drain takes c.in-Ok.ensures.posted)

pub returns-in-Ok-clause-appended : goal.returns-in-Ok-clause-appended
returns-in-Ok-clause-appended g c =
    let own = c.post.new.self in
    subst (λ (l : LockedView g.row.O.Denot). AppendsFor c.args.owner l (record { core = own.core; owners = own.owners; turns = own.turns; parts = own.parts; uses = c.self.inside.uses.items; keeper = c.take_drain.new.self })) c.self.view_is c.in-Ok.ensures.appended

pub returns-in-Ok-clause-owed : goal.returns-in-Ok-clause-owed
returns-in-Ok-clause-owed g c =
    let takes = subst (λ (o : Option HeldKey). TakesFirst o c.self.inside.keeper c.take_drain.new.self) c.in-Some.is c.take_drain.ensures in
    let kept = posts_keep c.self.inside.own.core c.post.new.self.core c.in-Some.drain c.note_kept.ensures.legal c.self.inside.keeper c.take_drain.new.self c.self.inside.gate c.self.invariant.1 c.self.invariant.0 takes c.in-Ok.ensures.posted in
    c.owed_by.ensures ∙ owed_now c.post.new.self.core c.note_kept-in-Ok.ensures.legal c.take_drain.new.self c.note_orderly-in-Ok.ensures kept.0

-- ---- it is put back

pub put_back-requires : goal.put_back-requires
put_back-requires g c =
    let takes = subst (λ (o : Option HeldKey). TakesFirst o c.self.inside.keeper c.take_drain.new.self) c.in-Some.is c.take_drain.ensures in
    record { drain = back_can c.in-Some.drain _ c.self.inside.keeper c.take_drain.new.self takes c.in-Err.ensures.back }

pub invariant_of-self-in-Err : goal.invariant_of-self-in-Err
invariant_of-self-in-Err g c =
    let takes = subst (λ (o : Option HeldKey). TakesFirst o c.self.inside.keeper c.take_drain.new.self) c.in-Some.is c.take_drain.ensures in
    let same = back_is c.in-Some.drain _ c.self.inside.keeper c.take_drain.new.self c.put_back.new.self takes c.in-Err.ensures.back c.put_back.ensures in (
      subst (λ (k : KeeperView). HasGates (world c.post.new.self.core) k) (sym same) (subst (λ (l : OwnedView g.row.O.Denot). HasGates (world l.core) c.self.inside.keeper) (sym c.in-Err.ensures.err) c.self.invariant.0),
      ap (λ (k : KeeperView). k.gate) same ∙ c.self.invariant.1,
      subst (λ (l : OwnedView g.row.O.Denot). AreKeptGets (log_owned l) c.self.inside.uses.items) (sym c.in-Err.ensures.err) c.self.invariant.2,
    )

pub returns-in-Err-clause-appended : goal.returns-in-Err-clause-appended
returns-in-Err-clause-appended g c =
    let own = c.post.new.self in
    subst (λ (l : LockedView g.row.O.Denot). AppendsFor c.args.owner l (record { core = own.core; owners = own.owners; turns = own.turns; parts = own.parts; uses = c.self.inside.uses.items; keeper = c.put_back.new.self })) c.self.view_is c.in-Err.ensures.appended

pub returns-in-Err-clause-err : goal.returns-in-Err-clause-err
returns-in-Err-clause-err g c =
    let takes = subst (λ (o : Option HeldKey). TakesFirst o c.self.inside.keeper c.take_drain.new.self) c.in-Some.is c.take_drain.ensures in
    let same = back_is c.in-Some.drain _ c.self.inside.keeper c.take_drain.new.self c.put_back.new.self takes c.in-Err.ensures.back c.put_back.ensures in
    let own = c.self.inside.own in
    let before : LockedView g.row.O.Denot = record { core = own.core; owners = own.owners; turns = own.turns; parts = own.parts; uses = c.self.inside.uses.items; keeper = c.self.inside.keeper } in
    ap (λ (l : OwnedView g.row.O.Denot). record { core = l.core; owners = l.owners; turns = l.turns; parts = l.parts; uses = c.self.inside.uses.items; keeper = c.put_back.new.self }) c.in-Err.ensures.err
    ∙ ap (λ (k : KeeperView). record before { keeper = k }) same
    ∙ c.self.view_is
