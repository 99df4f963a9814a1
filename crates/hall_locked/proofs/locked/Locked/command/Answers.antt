use Rattle.std.proofs.Common.{◌≡◌, ap, length, ◌∙◌, subst, sym, ◌&&◌}
use Rattle.std.specs.Prelude.{is_some, nat_lt}
use Rattle.hall_locked.specs.Locks.{AppendsFor, HasGates, LockedView}
use Rattle.hall_locked.specs.OwnedCores.{OwnedView, log_owned}
use Rattle.hall_locked.specs.Uses.{AreKeptGets}
use Rattle.hall_locked.proofs.Calls.{keeps_by, opens_keys, owed_behind}
use Rattle.hall_locked.proofs.Uses.{command_uses}
use Rattle.platform_hall.specs.Platforms.{has_drain, world}
use Rattle.scr_core.specs.Cores.{CoreView}
use Rattle.hall_locked.proofs.locked.Locked.command.Goals as goal

pub shut_all-requires : goal.shut_all-requires
shut_all-requires g c = record {
  own = c.self.invariant.1;
  «open» = opens_keys c.self.inside.own.core c.command.new.self.core c.args.command c.in-Ok.accepted c.note_kept.ensures.legal c.in-Ok.ensures.answer c.self.inside.keeper c.note_orderly.ensures c.self.invariant.0 c.as_slice.result.now c.as_slice.ensures;
}

pub invariant_of-self : goal.invariant_of-self
invariant_of-self g c =
    let kept =
    keeps_by c.self.inside.own.core c.command.new.self.core c.args.command c.in-Ok.accepted c.note_kept.ensures.legal c.in-Ok.ensures.answer c.self.inside.keeper c.note_orderly.ensures c.self.invariant.0
    c.shut_all.new.self c.as_slice.result.now c.self.inside.gate c.self.invariant.1 c.as_slice.ensures c.shut_all.ensures.shut c.shut_all.ensures.alone in
    (kept.0, kept.1, command_uses c.args.owner c.self.inside.own c.command.new.self c.in-Ok.ensures.appended c.self.inside.uses.items c.self.invariant.2 c.args.command c.in-Ok.accepted c.in-Ok.ensures.answer)

pub returns-in-Ok-clause-appended : goal.returns-in-Ok-clause-appended
returns-in-Ok-clause-appended g c =
    let own = c.command.new.self in
    subst (λ (l : LockedView g.row.O.Denot). AppendsFor c.args.owner l (record { core = own.core; owners = own.owners; turns = own.turns; parts = own.parts; uses = c.self.inside.uses.items; keeper = c.shut_all.new.self })) c.self.view_is c.in-Ok.ensures.appended

pub returns-in-Ok-clause-owed : goal.returns-in-Ok-clause-owed
returns-in-Ok-clause-owed g c =
    let core = c.command.new.self.core in
    let many : c.length-entries.result ≡ length c.self.inside.own.core.journal = c.length-entries.ensures ∙ ap length (c.journal.ensures.entries ∙ ap (λ (co : CoreView). co.journal) c.look.ensures.core) in
    let kept =
    keeps_by c.self.inside.own.core core c.args.command c.in-Ok.accepted c.note_kept.ensures.legal c.in-Ok.ensures.answer c.self.inside.keeper c.note_orderly.ensures c.self.invariant.0
    c.shut_all.new.self c.as_slice.result.now c.self.inside.gate c.self.invariant.1 c.as_slice.ensures c.shut_all.ensures.shut c.shut_all.ensures.alone in
    subst (λ (l : LockedView g.row.O.Denot). is_some c.owed_since-owed.result ≡ (nat_lt (length l.core.journal) (length core.journal) && has_drain core)) c.self.view_is
    (owed_behind c.self.inside.own.core core c.look-in-Ok.result.now c.note_kept-in-Ok.ensures.legal c.shut_all.new.self c.note_orderly-in-Ok.ensures kept.0 c.length-entries.result (is_some c.owed_since-owed.result) many c.look-in-Ok.ensures.core c.owed_since-owed.ensures)

pub invariant_of-self-in-Err : goal.invariant_of-self-in-Err
invariant_of-self-in-Err g c = (
  subst (λ (l : OwnedView g.row.O.Denot). HasGates (world l.core) c.self.inside.keeper) (sym c.in-Err.ensures.refused) c.self.invariant.0,
  c.self.invariant.1,
  subst (λ (l : OwnedView g.row.O.Denot). AreKeptGets (log_owned l) c.self.inside.uses.items) (sym c.in-Err.ensures.refused) c.self.invariant.2,
)

pub returns-in-Err-clause-appended : goal.returns-in-Err-clause-appended
returns-in-Err-clause-appended g c =
    let own = c.command.new.self in
    subst (λ (l : LockedView g.row.O.Denot). AppendsFor c.args.owner l (record { core = own.core; owners = own.owners; turns = own.turns; parts = own.parts; uses = c.self.inside.uses.items; keeper = c.self.inside.keeper })) c.self.view_is c.in-Err.ensures.appended

pub returns-in-Err-clause-refused : goal.returns-in-Err-clause-refused
returns-in-Err-clause-refused g c =
    ap (λ (l : OwnedView g.row.O.Denot). record { core = l.core; owners = l.owners; turns = l.turns; parts = l.parts; uses = c.self.inside.uses.items; keeper = c.self.inside.keeper }) c.in-Err.ensures.refused ∙ c.self.view_is
