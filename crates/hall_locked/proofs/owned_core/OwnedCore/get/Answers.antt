use Rattle.std.proofs.Common.{ap, ◌∙◌, subst}
use Rattle.std.specs.Prelude.{length}
use Rattle.hall_locked.specs.OwnedCores.{AppendsOwned, OwnedView}
use Rattle.hall_locked.specs.Owned.{owners_up_to}
use Rattle.hall_locked.proofs.Getting.{got, ungot_same}
use Rattle.hall_locked.proofs.Stretches.{changed_to, nothing_changed, same_owned}
use Rattle.hall_locked.proofs.owned_core.OwnedCore.get.Goals as goal

pub invariant_of-self-in-Ok : goal.invariant_of-self-in-Ok
invariant_of-self-in-Ok g c =
    let before : OwnedView g.row.O.Denot = record { core = c.self.inside.core; owners = c.self.inside.owners.items; turns = c.self.inside.turns.items; parts = c.self.inside.parts.items } in
    let named = c.note_owner.ensures ∙ ap (λ os. owners_up_to (length c.get_use.new.self.journal) c.args.owner os) c.reserve.ensures.items in
    (got c.args.owner before c.get_use.new.self c.note_owner.new.owners.items c.note_legal.ensures c.self.invariant named c.args.bundle c.args.service c.in-Ok.note c.in-Ok.ensures.answer).locked

pub returns-in-Ok-clause-appended : goal.returns-in-Ok-clause-appended
returns-in-Ok-clause-appended g c =
    let before : OwnedView g.row.O.Denot = record { core = c.self.inside.core; owners = c.self.inside.owners.items; turns = c.self.inside.turns.items; parts = c.self.inside.parts.items } in
    let named = c.note_owner.ensures ∙ ap (λ os. owners_up_to (length c.get_use.new.self.journal) c.args.owner os) c.reserve.ensures.items in
    subst (λ (l : OwnedView g.row.O.Denot). AppendsOwned c.args.owner l (changed_to before c.get_use.new.self c.note_owner.new.owners.items)) c.self.view_is
    (got c.args.owner before c.get_use.new.self c.note_owner.new.owners.items c.note_legal.ensures c.self.invariant named c.args.bundle c.args.service c.in-Ok.note c.in-Ok.ensures.answer).appends

pub invariant_of-self-in-Err : goal.invariant_of-self-in-Err
invariant_of-self-in-Err g c =
    let before : OwnedView g.row.O.Denot = record { core = c.self.inside.core; owners = c.self.inside.owners.items; turns = c.self.inside.turns.items; parts = c.self.inside.parts.items } in
    let same = ungot_same c.self.inside.core.limits.journal c.self.inside.core.journal c.get_use.new.self.journal c.args.bundle c.args.service c.in-Err.fault c.in-Err.ensures.answer in
    (nothing_changed c.args.owner before c.get_use.new.self c.reserve.new.self.items c.self.invariant c.in-Err.ensures.limits same c.reserve.ensures.items).locked

pub returns-in-Err-clause-appended : goal.returns-in-Err-clause-appended
returns-in-Err-clause-appended g c =
    let before : OwnedView g.row.O.Denot = record { core = c.self.inside.core; owners = c.self.inside.owners.items; turns = c.self.inside.turns.items; parts = c.self.inside.parts.items } in
    let same = ungot_same c.self.inside.core.limits.journal c.self.inside.core.journal c.get_use.new.self.journal c.args.bundle c.args.service c.in-Err.fault c.in-Err.ensures.answer in
    subst (λ (l : OwnedView g.row.O.Denot). AppendsOwned c.args.owner l (changed_to before c.get_use.new.self c.reserve.new.self.items)) c.self.view_is
    (nothing_changed c.args.owner before c.get_use.new.self c.reserve.new.self.items c.self.invariant c.in-Err.ensures.limits same c.reserve.ensures.items).appends

pub returns-in-Err-clause-refused : goal.returns-in-Err-clause-refused
returns-in-Err-clause-refused g c =
    let before : OwnedView g.row.O.Denot = record { core = c.self.inside.core; owners = c.self.inside.owners.items; turns = c.self.inside.turns.items; parts = c.self.inside.parts.items } in
    let same = ungot_same c.self.inside.core.limits.journal c.self.inside.core.journal c.get_use.new.self.journal c.args.bundle c.args.service c.in-Err.fault c.in-Err.ensures.answer in
    same_owned before c.get_use.new.self c.reserve.new.self.items c.in-Err.ensures.limits same c.reserve.ensures.items ∙ c.self.view_is
