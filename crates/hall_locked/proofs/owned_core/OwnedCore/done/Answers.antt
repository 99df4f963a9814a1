use Rattle.std.proofs.Common.{List, ap, sym, ◌∙◌, subst, Some}
use Rattle.std.specs.Arc.{arc_value}
use Rattle.std.specs.Prelude.{insert, is_some, length}
use Rattle.front_lock.specs.Keepings.{kept_under}
use Rattle.hall_locked.specs.declared.part.Part.{Part}
use Rattle.hall_locked.specs.OwnedCores.{AppendsOwned, OwnedView, turns_owned}
use Rattle.hall_locked.specs.Owned.{owners_up_to}
use Rattle.hall_locked.specs.Parts.{ArePartsLeft}
use Rattle.hall_locked.proofs.Turning.{HasEnded, ended, none_appended, one_token, same_whole, still_owned}
use Rattle.platform_hall.specs.Platforms.{running, world}
use Rattle.platform_hall.proofs.Desks.{running_under_way}
use Rattle.scr_world.specs.Calls.{Grown}
use Rattle.scr_world.specs.Legal.{is_under_way}
use Rattle.scr_world.specs.declared.step.Step.TheVariants.{End}
use Rattle.turn_runner.specs.Outcomes.{IsRunOf}
use Rattle.hall_locked.proofs.owned_core.OwnedCore.done.Goals as goal

pub take_out-out-requires : goal.take_out-out-requires
take_out-out-requires g c =
    let before : OwnedView g.row.O.Denot = record { core = c.self.inside.core; owners = c.self.inside.owners.items; turns = c.self.inside.turns.items; parts = c.self.inside.parts.items } in
    let is = sym (rw c.in-Ok-Some.field-0-is at c.in-Ok-Some.ensures) in
    one_token before c.args.turn c.in-Ok-Some.work c.note_legal.ensures c.self.invariant is

pub done-requires : goal.done-requires
done-requires g c =
    let is = sym (rw c.in-Ok-Some.field-0-is at c.in-Ok-Some.ensures) in
    ap (is_under_way (world c.self.inside.core)) c.take_out-out.ensures.turn ∙ running_under_way c.self.inside.core c.args.turn c.in-Ok-Some.work c.note_legal.ensures is

pub invariant_of-self-in-Ok : goal.invariant_of-self-in-Ok
invariant_of-self-in-Ok g c =
    let before : OwnedView g.row.O.Denot = record { core = c.self.inside.core; owners = c.self.inside.owners.items; turns = c.self.inside.turns.items; parts = c.self.inside.parts.items } in
    let is = sym (rw c.in-Ok-Some.field-0-is at c.in-Ok-Some.ensures) in
    let core = c.done.new.self in
    let outcome = c.args.ran.outcome in
    let grown = subst (λ t. Grown before.core.limits.journal before.core.journal (End t outcome) core.journal) c.take_out-out.ensures.turn c.in-Ok.ensures.ok.0 in
    let makes = subst (λ o. IsRunOf o outcome (is_some c.args.ran.made)) (ap (λ (l : OwnedView g.row.O.Denot). running l.core c.args.turn) (sym c.self.view_is) ∙ is) c.requires.run in
    let has = ended arc_value before core c.args.turn outcome c.in-Ok-Some.work c.args.ran.made c.note_legal.ensures c.self.invariant is (c.in-Ok.ensures.limits, grown) makes
    c.args.owner c.note_owner.new.owners.items c.take_out-out.new.turns.items c.keep.new.parts.items
    (c.note_owner.ensures ∙ ap (λ os. owners_up_to (length core.journal) c.args.owner os) c.room_in.ensures.one)
    c.take_out-out.ensures.left
    (subst (λ (ps : List (Part g.row.O.Denot)). ArePartsLeft arc_value (Some c.in-Ok-Some.work) c.args.ran.made ps c.keep.new.parts.items) c.room_in.ensures.other c.keep.ensures) in
    has.locked

pub returns-in-Ok-clause-ended : goal.returns-in-Ok-clause-ended
returns-in-Ok-clause-ended g c =
    let before : OwnedView g.row.O.Denot = record { core = c.self.inside.core; owners = c.self.inside.owners.items; turns = c.self.inside.turns.items; parts = c.self.inside.parts.items } in
    let is = sym (rw c.in-Ok-Some.field-0-is at c.in-Ok-Some.ensures) in
    let core = c.done.new.self in
    let outcome = c.args.ran.outcome in
    let grown = subst (λ t. Grown before.core.limits.journal before.core.journal (End t outcome) core.journal) c.take_out-out.ensures.turn c.in-Ok.ensures.ok.0 in
    let makes = subst (λ o. IsRunOf o outcome (is_some c.args.ran.made)) (ap (λ (l : OwnedView g.row.O.Denot). running l.core c.args.turn) (sym c.self.view_is) ∙ is) c.requires.run in
    let has = ended arc_value before core c.args.turn outcome c.in-Ok-Some.work c.args.ran.made c.note_legal.ensures c.self.invariant is (c.in-Ok.ensures.limits, grown) makes
    c.args.owner c.note_owner.new.owners.items c.take_out-out.new.turns.items c.keep.new.parts.items
    (c.note_owner.ensures ∙ ap (λ os. owners_up_to (length core.journal) c.args.owner os) c.room_in.ensures.one)
    c.take_out-out.ensures.left
    (subst (λ (ps : List (Part g.row.O.Denot)). ArePartsLeft arc_value (Some c.in-Ok-Some.work) c.args.ran.made ps c.keep.new.parts.items) c.room_in.ensures.other c.keep.ensures) in
    (subst (λ (l : OwnedView g.row.O.Denot). HasEnded arc_value c.args.owner c.args.turn c.args.ran.outcome c.args.ran.made l (record { core = c.done.new.self; owners = c.note_owner.new.owners.items; turns = c.take_out-out.new.turns.items; parts = c.keep.new.parts.items })) c.self.view_is has).ended

pub returns-in-Ok-clause-appended : goal.returns-in-Ok-clause-appended
returns-in-Ok-clause-appended g c =
    let before : OwnedView g.row.O.Denot = record { core = c.self.inside.core; owners = c.self.inside.owners.items; turns = c.self.inside.turns.items; parts = c.self.inside.parts.items } in
    let is = sym (rw c.in-Ok-Some.field-0-is at c.in-Ok-Some.ensures) in
    let core = c.done.new.self in
    let outcome = c.args.ran.outcome in
    let grown = subst (λ t. Grown before.core.limits.journal before.core.journal (End t outcome) core.journal) c.take_out-out.ensures.turn c.in-Ok.ensures.ok.0 in
    let makes = subst (λ o. IsRunOf o outcome (is_some c.args.ran.made)) (ap (λ (l : OwnedView g.row.O.Denot). running l.core c.args.turn) (sym c.self.view_is) ∙ is) c.requires.run in
    let has = ended arc_value before core c.args.turn outcome c.in-Ok-Some.work c.args.ran.made c.note_legal.ensures c.self.invariant is (c.in-Ok.ensures.limits, grown) makes
    c.args.owner c.note_owner.new.owners.items c.take_out-out.new.turns.items c.keep.new.parts.items
    (c.note_owner.ensures ∙ ap (λ os. owners_up_to (length core.journal) c.args.owner os) c.room_in.ensures.one)
    c.take_out-out.ensures.left
    (subst (λ (ps : List (Part g.row.O.Denot)). ArePartsLeft arc_value (Some c.in-Ok-Some.work) c.args.ran.made ps c.keep.new.parts.items) c.room_in.ensures.other c.keep.ensures) in
    (subst (λ (l : OwnedView g.row.O.Denot). HasEnded arc_value c.args.owner c.args.turn c.args.ran.outcome c.args.ran.made l (record { core = c.done.new.self; owners = c.note_owner.new.owners.items; turns = c.take_out-out.new.turns.items; parts = c.keep.new.parts.items })) c.self.view_is has).appends

pub returns-in-Ok-clause-turns : goal.returns-in-Ok-clause-turns
returns-in-Ok-clause-turns g c =
    let before : OwnedView g.row.O.Denot = record { core = c.self.inside.core; owners = c.self.inside.owners.items; turns = c.self.inside.turns.items; parts = c.self.inside.parts.items } in
    let is = sym (rw c.in-Ok-Some.field-0-is at c.in-Ok-Some.ensures) in
    let core = c.done.new.self in
    let outcome = c.args.ran.outcome in
    let grown = subst (λ t. Grown before.core.limits.journal before.core.journal (End t outcome) core.journal) c.take_out-out.ensures.turn c.in-Ok.ensures.ok.0 in
    let makes = subst (λ o. IsRunOf o outcome (is_some c.args.ran.made)) (ap (λ (l : OwnedView g.row.O.Denot). running l.core c.args.turn) (sym c.self.view_is) ∙ is) c.requires.run in
    let has = ended arc_value before core c.args.turn outcome c.in-Ok-Some.work c.args.ran.made c.note_legal.ensures c.self.invariant is (c.in-Ok.ensures.limits, grown) makes
    c.args.owner c.note_owner.new.owners.items c.take_out-out.new.turns.items c.keep.new.parts.items
    (c.note_owner.ensures ∙ ap (λ os. owners_up_to (length core.journal) c.args.owner os) c.room_in.ensures.one)
    c.take_out-out.ensures.left
    (subst (λ (ps : List (Part g.row.O.Denot)). ArePartsLeft arc_value (Some c.in-Ok-Some.work) c.args.ran.made ps c.keep.new.parts.items) c.room_in.ensures.other c.keep.ensures) in
    (subst (λ (l : OwnedView g.row.O.Denot). HasEnded arc_value c.args.owner c.args.turn c.args.ran.outcome c.args.ran.made l (record { core = c.done.new.self; owners = c.note_owner.new.owners.items; turns = c.take_out-out.new.turns.items; parts = c.keep.new.parts.items })) c.self.view_is has).turns

pub returns-in-Ok-clause-others : goal.returns-in-Ok-clause-others
returns-in-Ok-clause-others g c =
    let before : OwnedView g.row.O.Denot = record { core = c.self.inside.core; owners = c.self.inside.owners.items; turns = c.self.inside.turns.items; parts = c.self.inside.parts.items } in
    let is = sym (rw c.in-Ok-Some.field-0-is at c.in-Ok-Some.ensures) in
    let core = c.done.new.self in
    let outcome = c.args.ran.outcome in
    let grown = subst (λ t. Grown before.core.limits.journal before.core.journal (End t outcome) core.journal) c.take_out-out.ensures.turn c.in-Ok.ensures.ok.0 in
    let makes = subst (λ o. IsRunOf o outcome (is_some c.args.ran.made)) (ap (λ (l : OwnedView g.row.O.Denot). running l.core c.args.turn) (sym c.self.view_is) ∙ is) c.requires.run in
    let has = ended arc_value before core c.args.turn outcome c.in-Ok-Some.work c.args.ran.made c.note_legal.ensures c.self.invariant is (c.in-Ok.ensures.limits, grown) makes
    c.args.owner c.note_owner.new.owners.items c.take_out-out.new.turns.items c.keep.new.parts.items
    (c.note_owner.ensures ∙ ap (λ os. owners_up_to (length core.journal) c.args.owner os) c.room_in.ensures.one)
    c.take_out-out.ensures.left
    (subst (λ (ps : List (Part g.row.O.Denot)). ArePartsLeft arc_value (Some c.in-Ok-Some.work) c.args.ran.made ps c.keep.new.parts.items) c.room_in.ensures.other c.keep.ensures) in
    (subst (λ (l : OwnedView g.row.O.Denot). HasEnded arc_value c.args.owner c.args.turn c.args.ran.outcome c.args.ran.made l (record { core = c.done.new.self; owners = c.note_owner.new.owners.items; turns = c.take_out-out.new.turns.items; parts = c.keep.new.parts.items })) c.self.view_is has).others

pub returns-in-Ok-clause-parts : goal.returns-in-Ok-clause-parts
returns-in-Ok-clause-parts g c =
    let before : OwnedView g.row.O.Denot = record { core = c.self.inside.core; owners = c.self.inside.owners.items; turns = c.self.inside.turns.items; parts = c.self.inside.parts.items } in
    let is = sym (rw c.in-Ok-Some.field-0-is at c.in-Ok-Some.ensures) in
    let core = c.done.new.self in
    let outcome = c.args.ran.outcome in
    let grown = subst (λ t. Grown before.core.limits.journal before.core.journal (End t outcome) core.journal) c.take_out-out.ensures.turn c.in-Ok.ensures.ok.0 in
    let makes = subst (λ o. IsRunOf o outcome (is_some c.args.ran.made)) (ap (λ (l : OwnedView g.row.O.Denot). running l.core c.args.turn) (sym c.self.view_is) ∙ is) c.requires.run in
    let has = ended arc_value before core c.args.turn outcome c.in-Ok-Some.work c.args.ran.made c.note_legal.ensures c.self.invariant is (c.in-Ok.ensures.limits, grown) makes
    c.args.owner c.note_owner.new.owners.items c.take_out-out.new.turns.items c.keep.new.parts.items
    (c.note_owner.ensures ∙ ap (λ os. owners_up_to (length core.journal) c.args.owner os) c.room_in.ensures.one)
    c.take_out-out.ensures.left
    (subst (λ (ps : List (Part g.row.O.Denot)). ArePartsLeft arc_value (Some c.in-Ok-Some.work) c.args.ran.made ps c.keep.new.parts.items) c.room_in.ensures.other c.keep.ensures) in
    (subst (λ (l : OwnedView g.row.O.Denot). HasEnded arc_value c.args.owner c.args.turn c.args.ran.outcome c.args.ran.made l (record { core = c.done.new.self; owners = c.note_owner.new.owners.items; turns = c.take_out-out.new.turns.items; parts = c.keep.new.parts.items })) c.self.view_is has).parts

pub invariant_of-self-in-Err-done : goal.invariant_of-self-in-Err-done
invariant_of-self-in-Err-done g c =
    let before : OwnedView g.row.O.Denot = record { core = c.self.inside.core; owners = c.self.inside.owners.items; turns = c.self.inside.turns.items; parts = c.self.inside.parts.items } in
    still_owned c.args.owner before c.done.new.self c.room_in.new.one.items c.put_again.new.turns.items c.room_in.new.other.items c.self.invariant c.in-Err-done.ensures.limits c.room_in.ensures.one (c.put_again.ensures ∙ ap (λ t. insert c.take_out-out.new.turns.items c.take_out-out.result.place (c.take_out-out.result.owner, t)) c.in-Err-done.ensures.back ∙ c.take_out-out.ensures.back) c.room_in.ensures.other c.in-Err-done.ensures.err

pub returns-in-Err-done-clause-appended : goal.returns-in-Err-done-clause-appended
returns-in-Err-done-clause-appended g c =
    let before : OwnedView g.row.O.Denot = record { core = c.self.inside.core; owners = c.self.inside.owners.items; turns = c.self.inside.turns.items; parts = c.self.inside.parts.items } in
    subst (λ (l : OwnedView g.row.O.Denot). AppendsOwned c.args.owner l (record { core = c.done.new.self; owners = c.room_in.new.one.items; turns = c.put_again.new.turns.items; parts = c.room_in.new.other.items })) c.self.view_is
    (none_appended c.args.owner before c.done.new.self c.room_in.new.one.items c.put_again.new.turns.items c.room_in.new.other.items c.self.invariant c.in-Err-done.ensures.limits c.room_in.ensures.one (c.put_again.ensures ∙ ap (λ t. insert c.take_out-out.new.turns.items c.take_out-out.result.place (c.take_out-out.result.owner, t)) c.in-Err-done.ensures.back ∙ c.take_out-out.ensures.back) c.room_in.ensures.other c.in-Err-done.ensures.err)

pub returns-in-Err-done-clause-others : goal.returns-in-Err-done-clause-others
returns-in-Err-done-clause-others g c = λ n none.
    let before : OwnedView g.row.O.Denot = record { core = c.self.inside.core; owners = c.self.inside.owners.items; turns = c.self.inside.turns.items; parts = c.self.inside.parts.items } in
    let same = same_whole c.args.owner before c.done.new.self c.room_in.new.one.items c.put_again.new.turns.items c.room_in.new.other.items c.self.invariant c.in-Err-done.ensures.limits c.room_in.ensures.one (c.put_again.ensures ∙ ap (λ t. insert c.take_out-out.new.turns.items c.take_out-out.result.place (c.take_out-out.result.owner, t)) c.in-Err-done.ensures.back ∙ c.take_out-out.ensures.back) c.room_in.ensures.other c.in-Err-done.ensures.err in
    ap (λ (l : OwnedView g.row.O.Denot). kept_under n (turns_owned l)) (same ∙ c.self.view_is)

pub returns-in-Err-done-clause-err : goal.returns-in-Err-done-clause-err
returns-in-Err-done-clause-err g c =
    let before : OwnedView g.row.O.Denot = record { core = c.self.inside.core; owners = c.self.inside.owners.items; turns = c.self.inside.turns.items; parts = c.self.inside.parts.items } in
    same_whole c.args.owner before c.done.new.self c.room_in.new.one.items c.put_again.new.turns.items c.room_in.new.other.items c.self.invariant c.in-Err-done.ensures.limits c.room_in.ensures.one (c.put_again.ensures ∙ ap (λ t. insert c.take_out-out.new.turns.items c.take_out-out.result.place (c.take_out-out.result.owner, t)) c.in-Err-done.ensures.back ∙ c.take_out-out.ensures.back) c.room_in.ensures.other c.in-Err-done.ensures.err ∙ c.self.view_is
