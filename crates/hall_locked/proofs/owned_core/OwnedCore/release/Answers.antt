use Rattle.std.proofs.Common.{ap, ◌∙◌, subst}
use Rattle.std.specs.Prelude.{length}
use Rattle.hall_locked.specs.OwnedCores.{AppendsOwned, OwnedView}
use Rattle.hall_locked.specs.Owned.{owners_up_to}
use Rattle.hall_locked.proofs.Getting.{released}
use Rattle.hall_locked.proofs.Stretches.{changed_to, nothing_changed}
use Rattle.hall_locked.proofs.owned_core.OwnedCore.release.Goals as goal

pub invariant_of-self-in-Ok : goal.invariant_of-self-in-Ok
invariant_of-self-in-Ok g c =
    let before : OwnedView g.row.O.Denot = record { core = c.self.inside.core; owners = c.self.inside.owners.items; turns = c.self.inside.turns.items; parts = c.self.inside.parts.items } in
    let named = c.note_owner.ensures ∙ ap (λ os. owners_up_to (length c.end_use.new.self.journal) c.args.owner os) c.reserve.ensures.items in
    (released c.args.owner before c.end_use.new.self c.note_owner.new.owners.items c.note_legal.ensures c.self.invariant named c.args.note c.in-Ok.stood c.in-Ok.ensures.ok).locked

pub invariant_of-self-in-Err : goal.invariant_of-self-in-Err
invariant_of-self-in-Err g c =
    let before : OwnedView g.row.O.Denot = record { core = c.self.inside.core; owners = c.self.inside.owners.items; turns = c.self.inside.turns.items; parts = c.self.inside.parts.items } in
    (nothing_changed c.args.owner before c.end_use.new.self c.reserve.new.self.items c.self.invariant c.in-Err.ensures.limits c.in-Err.ensures.err c.reserve.ensures.items).locked

pub returns-in-Ok-clause-appended : goal.returns-in-Ok-clause-appended
returns-in-Ok-clause-appended g c =
    let before : OwnedView g.row.O.Denot = record { core = c.self.inside.core; owners = c.self.inside.owners.items; turns = c.self.inside.turns.items; parts = c.self.inside.parts.items } in
    let named = c.note_owner.ensures ∙ ap (λ os. owners_up_to (length c.end_use.new.self.journal) c.args.owner os) c.reserve.ensures.items in
    subst (λ (l : OwnedView g.row.O.Denot). AppendsOwned c.args.owner l (changed_to before c.end_use.new.self c.note_owner.new.owners.items)) c.self.view_is
    (released c.args.owner before c.end_use.new.self c.note_owner.new.owners.items c.note_legal.ensures c.self.invariant named c.args.note c.in-Ok.stood c.in-Ok.ensures.ok).appends
