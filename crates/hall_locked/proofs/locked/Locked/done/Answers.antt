use Rattle.std.proofs.Common.{ap, ◌∙◌, is_some, subst, sym}
use Rattle.hall_locked.specs.Locks.{AppendsFor, HasGates, LockedView}
use Rattle.hall_locked.specs.OwnedCores.{OwnedView, log_owned}
use Rattle.hall_locked.specs.Uses.{AreKeptGets}
use Rattle.hall_locked.proofs.Calls.{ends_keep, ends_open_keys, ends_reopen, owed_now}
use Rattle.hall_locked.proofs.Uses.{end_uses}
use Rattle.platform_hall.specs.Platforms.{running, world}
use Rattle.turn_runner.specs.Outcomes.{IsRunOf}
use Rattle.hall_locked.proofs.locked.Locked.done.Goals as goal

pub done-requires : goal.done-requires
done-requires g c = record {
  run = subst (λ (l : LockedView g.row.O.Denot). IsRunOf (running l.core c.args.turn) c.args.ran.outcome (is_some c.args.ran.made)) (sym c.self.view_is) c.requires.run;
}

pub move_gates-requires : goal.move_gates-requires
move_gates-requires g c = record {
  own = c.self.invariant.1;
  can = ends_reopen c.self.inside.own.core c.done.new.self.core c.args.turn c.args.ran.outcome c.in-Ok.ended c.note_kept.ensures.legal c.note_kept.ensures.within c.in-Ok.ensures.ended c.in-Ok.ensures.gates c.self.inside.keeper c.note_orderly.ensures c.self.invariant.0;
  «open» = ends_open_keys c.self.inside.own.core c.done.new.self.core c.args.turn c.args.ran.outcome c.in-Ok.ended c.note_kept.ensures.legal c.note_kept.ensures.within c.in-Ok.ensures.ended c.in-Ok.ensures.gates c.self.inside.keeper c.note_orderly.ensures c.self.invariant.0
      c.as_slice.result.now c.as_slice.ensures;
}

pub invariant_of-self : goal.invariant_of-self
invariant_of-self g c =
    let kept =
    ends_keep c.self.inside.own.core c.done.new.self.core c.args.turn c.args.ran.outcome c.in-Ok.ended c.note_kept.ensures.legal c.note_kept.ensures.within c.in-Ok.ensures.ended c.in-Ok.ensures.gates c.self.inside.keeper c.note_orderly.ensures c.self.invariant.0
    c.move_gates.new.keeper c.as_slice.result.now c.self.inside.gate c.self.invariant.1 c.as_slice.ensures c.move_gates.ensures.shut c.move_gates.ensures.alone in
    (kept.0, kept.1, end_uses c.args.owner c.self.inside.own c.done.new.self c.in-Ok.ensures.appended c.self.inside.uses.items c.self.invariant.2 c.args.turn c.args.ran.outcome c.in-Ok.ensures.ended)

pub returns-in-Ok-clause-appended : goal.returns-in-Ok-clause-appended
returns-in-Ok-clause-appended g c =
    let own = c.done.new.self in
    subst (λ (l : LockedView g.row.O.Denot). AppendsFor c.args.owner l (record { core = own.core; owners = own.owners; turns = own.turns; parts = own.parts; uses = c.self.inside.uses.items; keeper = c.move_gates.new.keeper })) c.self.view_is c.in-Ok.ensures.appended

pub returns-in-Ok-clause-owed : goal.returns-in-Ok-clause-owed
returns-in-Ok-clause-owed g c =
    let kept =
    ends_keep c.self.inside.own.core c.done.new.self.core c.args.turn c.args.ran.outcome c.in-Ok.ended c.note_kept.ensures.legal c.note_kept.ensures.within c.in-Ok.ensures.ended c.in-Ok.ensures.gates c.self.inside.keeper c.note_orderly.ensures c.self.invariant.0
    c.move_gates.new.keeper c.as_slice.result.now c.self.inside.gate c.self.invariant.1 c.as_slice.ensures c.move_gates.ensures.shut c.move_gates.ensures.alone in
    c.owed_by.ensures ∙ owed_now c.done.new.self.core c.note_kept-in-Ok.ensures.legal c.move_gates.new.keeper c.note_orderly-in-Ok.ensures kept.0

pub invariant_of-self-in-Err : goal.invariant_of-self-in-Err
invariant_of-self-in-Err g c = (
  subst (λ (l : OwnedView g.row.O.Denot). HasGates (world l.core) c.self.inside.keeper) (sym c.in-Err.ensures.err) c.self.invariant.0,
  c.self.invariant.1,
  subst (λ (l : OwnedView g.row.O.Denot). AreKeptGets (log_owned l) c.self.inside.uses.items) (sym c.in-Err.ensures.err) c.self.invariant.2,
)

pub returns-in-Err-clause-appended : goal.returns-in-Err-clause-appended
returns-in-Err-clause-appended g c =
    let own = c.done.new.self in
    subst (λ (l : LockedView g.row.O.Denot). AppendsFor c.args.owner l (record { core = own.core; owners = own.owners; turns = own.turns; parts = own.parts; uses = c.self.inside.uses.items; keeper = c.self.inside.keeper })) c.self.view_is c.in-Err.ensures.appended

pub returns-in-Err-clause-err : goal.returns-in-Err-clause-err
returns-in-Err-clause-err g c =
    ap (λ (l : OwnedView g.row.O.Denot). record { core = l.core; owners = l.owners; turns = l.turns; parts = l.parts; uses = c.self.inside.uses.items; keeper = c.self.inside.keeper }) c.in-Err.ensures.err ∙ c.self.view_is
