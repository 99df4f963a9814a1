use Rattle.std.proofs.Common.{◌≤◌, ◌++◌, ◌∷◌, [], ℕ, List, ap, refl, sym, ◌∙◌, subst, Ok, Err, None}
use Rattle.std.specs.Prelude.{length}
use Rattle.hall_locked.specs.OwnedCores.{OwnedView}
use Rattle.hall_locked.specs.Owned.{owners_up_to}
use Rattle.hall_locked.proofs.Placed.{one_at_most}
use Rattle.hall_locked.proofs.Turning.{HasBegun, HasStayed, began, full_stays, idle_stays, memory_stays}
use Rattle.platform_hall.specs.Platforms.{has_object}
use Rattle.scr_world.specs.declared.reply.CoreFault.TheVariants.{JournalFull, OutOfMemory}
use Rattle.hall_locked.proofs.owned_core.OwnedCore.take.Goals as goal

pub tell_site-requires : goal.tell_site-requires
tell_site-requires g c =
    let work = c.in-Ok-Turn.work in
    subst (λ k. k ≤ 1) (sym (c.self.invariant.parts work.instance)) (one_at_most (has_object c.self.inside.core work.instance))

pub invariant_of-self-in-Ok-Turn : goal.invariant_of-self-in-Ok-Turn
invariant_of-self-in-Ok-Turn g c =
    let before : OwnedView g.row.O.Denot = record { core = c.self.inside.core; owners = c.self.inside.owners.items; turns = c.self.inside.turns.items; parts = c.self.inside.parts.items } in
    let took = rw c.in-Ok-Turn.field-0-is at c.in-Ok-Turn.ensures.answer in
    let has = began before c.take_turn.new.self c.in-Ok-Turn.work c.note_legal.ensures c.self.invariant (c.in-Ok-Turn.ensures.limits, took.1, took.2)
    c.args.owner c.note_owner.new.owners.items c.push_reserved.new.self.items c.tell_site.new.parts.items
    (c.note_owner.ensures ∙ ap (λ os. owners_up_to (length c.take_turn.new.self.journal) c.args.owner os) c.room_in.ensures.one)
    (c.push_reserved.ensures.items ∙ ap (λ (ts : List (ℕ × ℕ)). ts ++ (c.args.owner, c.in-Ok-Turn.token) ∷ []) c.room_in.ensures.other ∙ ap (λ t. before.turns ++ (c.args.owner, t) ∷ []) took.0)
    c.tell_site.ensures in
    has.locked

pub returns-in-Ok-Turn-clause-answer : goal.returns-in-Ok-Turn-clause-answer
returns-in-Ok-Turn-clause-answer g c =
    let before : OwnedView g.row.O.Denot = record { core = c.self.inside.core; owners = c.self.inside.owners.items; turns = c.self.inside.turns.items; parts = c.self.inside.parts.items } in
    let took = rw c.in-Ok-Turn.field-0-is at c.in-Ok-Turn.ensures.answer in
    let has = began before c.take_turn.new.self c.in-Ok-Turn.work c.note_legal.ensures c.self.invariant (c.in-Ok-Turn.ensures.limits, took.1, took.2)
    c.args.owner c.note_owner.new.owners.items c.push_reserved.new.self.items c.tell_site.new.parts.items
    (c.note_owner.ensures ∙ ap (λ os. owners_up_to (length c.take_turn.new.self.journal) c.args.owner os) c.room_in.ensures.one)
    (c.push_reserved.ensures.items ∙ ap (λ (ts : List (ℕ × ℕ)). ts ++ (c.args.owner, c.in-Ok-Turn.token) ∷ []) c.room_in.ensures.other ∙ ap (λ t. before.turns ++ (c.args.owner, t) ∷ []) took.0)
    c.tell_site.ensures in
    (subst (λ (l : OwnedView g.row.O.Denot). HasBegun c.args.owner c.in-Ok-Turn.work.number l (record { core = c.take_turn.new.self; owners = c.note_owner.new.owners.items; turns = c.push_reserved.new.self.items; parts = c.tell_site.new.parts.items })) c.self.view_is has).answer

pub returns-in-Ok-Turn-clause-appended : goal.returns-in-Ok-Turn-clause-appended
returns-in-Ok-Turn-clause-appended g c =
    let before : OwnedView g.row.O.Denot = record { core = c.self.inside.core; owners = c.self.inside.owners.items; turns = c.self.inside.turns.items; parts = c.self.inside.parts.items } in
    let took = rw c.in-Ok-Turn.field-0-is at c.in-Ok-Turn.ensures.answer in
    let has = began before c.take_turn.new.self c.in-Ok-Turn.work c.note_legal.ensures c.self.invariant (c.in-Ok-Turn.ensures.limits, took.1, took.2)
    c.args.owner c.note_owner.new.owners.items c.push_reserved.new.self.items c.tell_site.new.parts.items
    (c.note_owner.ensures ∙ ap (λ os. owners_up_to (length c.take_turn.new.self.journal) c.args.owner os) c.room_in.ensures.one)
    (c.push_reserved.ensures.items ∙ ap (λ (ts : List (ℕ × ℕ)). ts ++ (c.args.owner, c.in-Ok-Turn.token) ∷ []) c.room_in.ensures.other ∙ ap (λ t. before.turns ++ (c.args.owner, t) ∷ []) took.0)
    c.tell_site.ensures in
    (subst (λ (l : OwnedView g.row.O.Denot). HasBegun c.args.owner c.in-Ok-Turn.work.number l (record { core = c.take_turn.new.self; owners = c.note_owner.new.owners.items; turns = c.push_reserved.new.self.items; parts = c.tell_site.new.parts.items })) c.self.view_is has).appends

pub returns-in-Ok-Turn-clause-turns : goal.returns-in-Ok-Turn-clause-turns
returns-in-Ok-Turn-clause-turns g c =
    let before : OwnedView g.row.O.Denot = record { core = c.self.inside.core; owners = c.self.inside.owners.items; turns = c.self.inside.turns.items; parts = c.self.inside.parts.items } in
    let took = rw c.in-Ok-Turn.field-0-is at c.in-Ok-Turn.ensures.answer in
    let has = began before c.take_turn.new.self c.in-Ok-Turn.work c.note_legal.ensures c.self.invariant (c.in-Ok-Turn.ensures.limits, took.1, took.2)
    c.args.owner c.note_owner.new.owners.items c.push_reserved.new.self.items c.tell_site.new.parts.items
    (c.note_owner.ensures ∙ ap (λ os. owners_up_to (length c.take_turn.new.self.journal) c.args.owner os) c.room_in.ensures.one)
    (c.push_reserved.ensures.items ∙ ap (λ (ts : List (ℕ × ℕ)). ts ++ (c.args.owner, c.in-Ok-Turn.token) ∷ []) c.room_in.ensures.other ∙ ap (λ t. before.turns ++ (c.args.owner, t) ∷ []) took.0)
    c.tell_site.ensures in
    (subst (λ (l : OwnedView g.row.O.Denot). HasBegun c.args.owner c.in-Ok-Turn.work.number l (record { core = c.take_turn.new.self; owners = c.note_owner.new.owners.items; turns = c.push_reserved.new.self.items; parts = c.tell_site.new.parts.items })) c.self.view_is has).turns

pub returns-in-Ok-Turn-clause-parts : goal.returns-in-Ok-Turn-clause-parts
returns-in-Ok-Turn-clause-parts g c =
    let before : OwnedView g.row.O.Denot = record { core = c.self.inside.core; owners = c.self.inside.owners.items; turns = c.self.inside.turns.items; parts = c.self.inside.parts.items } in
    let took = rw c.in-Ok-Turn.field-0-is at c.in-Ok-Turn.ensures.answer in
    let has = began before c.take_turn.new.self c.in-Ok-Turn.work c.note_legal.ensures c.self.invariant (c.in-Ok-Turn.ensures.limits, took.1, took.2)
    c.args.owner c.note_owner.new.owners.items c.push_reserved.new.self.items c.tell_site.new.parts.items
    (c.note_owner.ensures ∙ ap (λ os. owners_up_to (length c.take_turn.new.self.journal) c.args.owner os) c.room_in.ensures.one)
    (c.push_reserved.ensures.items ∙ ap (λ (ts : List (ℕ × ℕ)). ts ++ (c.args.owner, c.in-Ok-Turn.token) ∷ []) c.room_in.ensures.other ∙ ap (λ t. before.turns ++ (c.args.owner, t) ∷ []) took.0)
    c.tell_site.ensures in
    (subst (λ (l : OwnedView g.row.O.Denot). HasBegun c.args.owner c.in-Ok-Turn.work.number l (record { core = c.take_turn.new.self; owners = c.note_owner.new.owners.items; turns = c.push_reserved.new.self.items; parts = c.tell_site.new.parts.items })) c.self.view_is has).parts

pub invariant_of-self-in-Ok-Idle : goal.invariant_of-self-in-Ok-Idle
invariant_of-self-in-Ok-Idle g c =
    let before : OwnedView g.row.O.Denot = record { core = c.self.inside.core; owners = c.self.inside.owners.items; turns = c.self.inside.turns.items; parts = c.self.inside.parts.items } in
    let told = rw c.in-Ok-Idle.field-0-is at c.in-Ok-Idle.ensures.answer in
    let stays = idle_stays c.args.owner before c.take_turn.new.self c.room_in.new.one.items c.room_in.new.other.items before.parts c.self.invariant c.in-Ok-Idle.ensures.limits c.room_in.ensures.one c.room_in.ensures.other refl told in
    stays.locked

pub returns-in-Ok-Idle-clause-answer : goal.returns-in-Ok-Idle-clause-answer
returns-in-Ok-Idle-clause-answer g c =
    let before : OwnedView g.row.O.Denot = record { core = c.self.inside.core; owners = c.self.inside.owners.items; turns = c.self.inside.turns.items; parts = c.self.inside.parts.items } in
    let told = rw c.in-Ok-Idle.field-0-is at c.in-Ok-Idle.ensures.answer in
    let stays = idle_stays c.args.owner before c.take_turn.new.self c.room_in.new.one.items c.room_in.new.other.items before.parts c.self.invariant c.in-Ok-Idle.ensures.limits c.room_in.ensures.one c.room_in.ensures.other refl told in
    (subst (λ (l : OwnedView g.row.O.Denot). HasStayed c.args.owner (Ok None) l (record { core = c.take_turn.new.self; owners = c.room_in.new.one.items; turns = c.room_in.new.other.items; parts = before.parts })) c.self.view_is stays).answer_is

pub returns-in-Ok-Idle-clause-appended : goal.returns-in-Ok-Idle-clause-appended
returns-in-Ok-Idle-clause-appended g c =
    let before : OwnedView g.row.O.Denot = record { core = c.self.inside.core; owners = c.self.inside.owners.items; turns = c.self.inside.turns.items; parts = c.self.inside.parts.items } in
    let told = rw c.in-Ok-Idle.field-0-is at c.in-Ok-Idle.ensures.answer in
    let stays = idle_stays c.args.owner before c.take_turn.new.self c.room_in.new.one.items c.room_in.new.other.items before.parts c.self.invariant c.in-Ok-Idle.ensures.limits c.room_in.ensures.one c.room_in.ensures.other refl told in
    (subst (λ (l : OwnedView g.row.O.Denot). HasStayed c.args.owner (Ok None) l (record { core = c.take_turn.new.self; owners = c.room_in.new.one.items; turns = c.room_in.new.other.items; parts = before.parts })) c.self.view_is stays).appends

pub returns-in-Ok-Idle-clause-turns : goal.returns-in-Ok-Idle-clause-turns
returns-in-Ok-Idle-clause-turns g c =
    let before : OwnedView g.row.O.Denot = record { core = c.self.inside.core; owners = c.self.inside.owners.items; turns = c.self.inside.turns.items; parts = c.self.inside.parts.items } in
    let told = rw c.in-Ok-Idle.field-0-is at c.in-Ok-Idle.ensures.answer in
    let stays = idle_stays c.args.owner before c.take_turn.new.self c.room_in.new.one.items c.room_in.new.other.items before.parts c.self.invariant c.in-Ok-Idle.ensures.limits c.room_in.ensures.one c.room_in.ensures.other refl told in
    (subst (λ (l : OwnedView g.row.O.Denot). HasStayed c.args.owner (Ok None) l (record { core = c.take_turn.new.self; owners = c.room_in.new.one.items; turns = c.room_in.new.other.items; parts = before.parts })) c.self.view_is stays).turns

pub returns-in-Ok-Idle-clause-parts : goal.returns-in-Ok-Idle-clause-parts
returns-in-Ok-Idle-clause-parts g c =
    let before : OwnedView g.row.O.Denot = record { core = c.self.inside.core; owners = c.self.inside.owners.items; turns = c.self.inside.turns.items; parts = c.self.inside.parts.items } in
    let told = rw c.in-Ok-Idle.field-0-is at c.in-Ok-Idle.ensures.answer in
    let stays = idle_stays c.args.owner before c.take_turn.new.self c.room_in.new.one.items c.room_in.new.other.items before.parts c.self.invariant c.in-Ok-Idle.ensures.limits c.room_in.ensures.one c.room_in.ensures.other refl told in
    (subst (λ (l : OwnedView g.row.O.Denot). HasStayed c.args.owner (Ok None) l (record { core = c.take_turn.new.self; owners = c.room_in.new.one.items; turns = c.room_in.new.other.items; parts = before.parts })) c.self.view_is stays).parts

pub invariant_of-self-in-Err-JournalFull : goal.invariant_of-self-in-Err-JournalFull
invariant_of-self-in-Err-JournalFull g c =
    let before : OwnedView g.row.O.Denot = record { core = c.self.inside.core; owners = c.self.inside.owners.items; turns = c.self.inside.turns.items; parts = c.self.inside.parts.items } in
    let told = rw c.in-Err-JournalFull.field-0-is at c.in-Err-JournalFull.ensures.answer in
    let stays = full_stays c.args.owner before c.take_turn.new.self c.room_in.new.one.items c.room_in.new.other.items before.parts c.self.invariant c.in-Err-JournalFull.ensures.limits c.room_in.ensures.one c.room_in.ensures.other refl told in
    stays.locked

pub returns-in-Err-JournalFull-clause-answer : goal.returns-in-Err-JournalFull-clause-answer
returns-in-Err-JournalFull-clause-answer g c =
    let before : OwnedView g.row.O.Denot = record { core = c.self.inside.core; owners = c.self.inside.owners.items; turns = c.self.inside.turns.items; parts = c.self.inside.parts.items } in
    let told = rw c.in-Err-JournalFull.field-0-is at c.in-Err-JournalFull.ensures.answer in
    let stays = full_stays c.args.owner before c.take_turn.new.self c.room_in.new.one.items c.room_in.new.other.items before.parts c.self.invariant c.in-Err-JournalFull.ensures.limits c.room_in.ensures.one c.room_in.ensures.other refl told in
    (subst (λ (l : OwnedView g.row.O.Denot). HasStayed c.args.owner (Err JournalFull) l (record { core = c.take_turn.new.self; owners = c.room_in.new.one.items; turns = c.room_in.new.other.items; parts = before.parts })) c.self.view_is stays).answer_is

pub returns-in-Err-JournalFull-clause-appended : goal.returns-in-Err-JournalFull-clause-appended
returns-in-Err-JournalFull-clause-appended g c =
    let before : OwnedView g.row.O.Denot = record { core = c.self.inside.core; owners = c.self.inside.owners.items; turns = c.self.inside.turns.items; parts = c.self.inside.parts.items } in
    let told = rw c.in-Err-JournalFull.field-0-is at c.in-Err-JournalFull.ensures.answer in
    let stays = full_stays c.args.owner before c.take_turn.new.self c.room_in.new.one.items c.room_in.new.other.items before.parts c.self.invariant c.in-Err-JournalFull.ensures.limits c.room_in.ensures.one c.room_in.ensures.other refl told in
    (subst (λ (l : OwnedView g.row.O.Denot). HasStayed c.args.owner (Err JournalFull) l (record { core = c.take_turn.new.self; owners = c.room_in.new.one.items; turns = c.room_in.new.other.items; parts = before.parts })) c.self.view_is stays).appends

pub returns-in-Err-JournalFull-clause-turns : goal.returns-in-Err-JournalFull-clause-turns
returns-in-Err-JournalFull-clause-turns g c =
    let before : OwnedView g.row.O.Denot = record { core = c.self.inside.core; owners = c.self.inside.owners.items; turns = c.self.inside.turns.items; parts = c.self.inside.parts.items } in
    let told = rw c.in-Err-JournalFull.field-0-is at c.in-Err-JournalFull.ensures.answer in
    let stays = full_stays c.args.owner before c.take_turn.new.self c.room_in.new.one.items c.room_in.new.other.items before.parts c.self.invariant c.in-Err-JournalFull.ensures.limits c.room_in.ensures.one c.room_in.ensures.other refl told in
    (subst (λ (l : OwnedView g.row.O.Denot). HasStayed c.args.owner (Err JournalFull) l (record { core = c.take_turn.new.self; owners = c.room_in.new.one.items; turns = c.room_in.new.other.items; parts = before.parts })) c.self.view_is stays).turns

pub returns-in-Err-JournalFull-clause-parts : goal.returns-in-Err-JournalFull-clause-parts
returns-in-Err-JournalFull-clause-parts g c =
    let before : OwnedView g.row.O.Denot = record { core = c.self.inside.core; owners = c.self.inside.owners.items; turns = c.self.inside.turns.items; parts = c.self.inside.parts.items } in
    let told = rw c.in-Err-JournalFull.field-0-is at c.in-Err-JournalFull.ensures.answer in
    let stays = full_stays c.args.owner before c.take_turn.new.self c.room_in.new.one.items c.room_in.new.other.items before.parts c.self.invariant c.in-Err-JournalFull.ensures.limits c.room_in.ensures.one c.room_in.ensures.other refl told in
    (subst (λ (l : OwnedView g.row.O.Denot). HasStayed c.args.owner (Err JournalFull) l (record { core = c.take_turn.new.self; owners = c.room_in.new.one.items; turns = c.room_in.new.other.items; parts = before.parts })) c.self.view_is stays).parts

pub returns-in-Err-JournalFull-clause-refused : goal.returns-in-Err-JournalFull-clause-refused
returns-in-Err-JournalFull-clause-refused g c =
    let before : OwnedView g.row.O.Denot = record { core = c.self.inside.core; owners = c.self.inside.owners.items; turns = c.self.inside.turns.items; parts = c.self.inside.parts.items } in
    let told = rw c.in-Err-JournalFull.field-0-is at c.in-Err-JournalFull.ensures.answer in
    let stays = full_stays c.args.owner before c.take_turn.new.self c.room_in.new.one.items c.room_in.new.other.items before.parts c.self.invariant c.in-Err-JournalFull.ensures.limits c.room_in.ensures.one c.room_in.ensures.other refl told in
    (subst (λ (l : OwnedView g.row.O.Denot). HasStayed c.args.owner (Err JournalFull) l (record { core = c.take_turn.new.self; owners = c.room_in.new.one.items; turns = c.room_in.new.other.items; parts = before.parts })) c.self.view_is stays).same

pub invariant_of-self-in-Err-OutOfMemory : goal.invariant_of-self-in-Err-OutOfMemory
invariant_of-self-in-Err-OutOfMemory g c =
    let before : OwnedView g.row.O.Denot = record { core = c.self.inside.core; owners = c.self.inside.owners.items; turns = c.self.inside.turns.items; parts = c.self.inside.parts.items } in
    let told = rw c.in-Err-OutOfMemory.field-0-is at c.in-Err-OutOfMemory.ensures.answer in
    let stays = memory_stays c.args.owner before c.take_turn.new.self c.room_in.new.one.items c.room_in.new.other.items before.parts c.self.invariant c.in-Err-OutOfMemory.ensures.limits c.room_in.ensures.one c.room_in.ensures.other refl told in
    stays.locked

pub returns-in-Err-OutOfMemory-clause-answer : goal.returns-in-Err-OutOfMemory-clause-answer
returns-in-Err-OutOfMemory-clause-answer g c =
    let before : OwnedView g.row.O.Denot = record { core = c.self.inside.core; owners = c.self.inside.owners.items; turns = c.self.inside.turns.items; parts = c.self.inside.parts.items } in
    let told = rw c.in-Err-OutOfMemory.field-0-is at c.in-Err-OutOfMemory.ensures.answer in
    let stays = memory_stays c.args.owner before c.take_turn.new.self c.room_in.new.one.items c.room_in.new.other.items before.parts c.self.invariant c.in-Err-OutOfMemory.ensures.limits c.room_in.ensures.one c.room_in.ensures.other refl told in
    (subst (λ (l : OwnedView g.row.O.Denot). HasStayed c.args.owner (Err OutOfMemory) l (record { core = c.take_turn.new.self; owners = c.room_in.new.one.items; turns = c.room_in.new.other.items; parts = before.parts })) c.self.view_is stays).answer_is

pub returns-in-Err-OutOfMemory-clause-appended : goal.returns-in-Err-OutOfMemory-clause-appended
returns-in-Err-OutOfMemory-clause-appended g c =
    let before : OwnedView g.row.O.Denot = record { core = c.self.inside.core; owners = c.self.inside.owners.items; turns = c.self.inside.turns.items; parts = c.self.inside.parts.items } in
    let told = rw c.in-Err-OutOfMemory.field-0-is at c.in-Err-OutOfMemory.ensures.answer in
    let stays = memory_stays c.args.owner before c.take_turn.new.self c.room_in.new.one.items c.room_in.new.other.items before.parts c.self.invariant c.in-Err-OutOfMemory.ensures.limits c.room_in.ensures.one c.room_in.ensures.other refl told in
    (subst (λ (l : OwnedView g.row.O.Denot). HasStayed c.args.owner (Err OutOfMemory) l (record { core = c.take_turn.new.self; owners = c.room_in.new.one.items; turns = c.room_in.new.other.items; parts = before.parts })) c.self.view_is stays).appends

pub returns-in-Err-OutOfMemory-clause-turns : goal.returns-in-Err-OutOfMemory-clause-turns
returns-in-Err-OutOfMemory-clause-turns g c =
    let before : OwnedView g.row.O.Denot = record { core = c.self.inside.core; owners = c.self.inside.owners.items; turns = c.self.inside.turns.items; parts = c.self.inside.parts.items } in
    let told = rw c.in-Err-OutOfMemory.field-0-is at c.in-Err-OutOfMemory.ensures.answer in
    let stays = memory_stays c.args.owner before c.take_turn.new.self c.room_in.new.one.items c.room_in.new.other.items before.parts c.self.invariant c.in-Err-OutOfMemory.ensures.limits c.room_in.ensures.one c.room_in.ensures.other refl told in
    (subst (λ (l : OwnedView g.row.O.Denot). HasStayed c.args.owner (Err OutOfMemory) l (record { core = c.take_turn.new.self; owners = c.room_in.new.one.items; turns = c.room_in.new.other.items; parts = before.parts })) c.self.view_is stays).turns

pub returns-in-Err-OutOfMemory-clause-parts : goal.returns-in-Err-OutOfMemory-clause-parts
returns-in-Err-OutOfMemory-clause-parts g c =
    let before : OwnedView g.row.O.Denot = record { core = c.self.inside.core; owners = c.self.inside.owners.items; turns = c.self.inside.turns.items; parts = c.self.inside.parts.items } in
    let told = rw c.in-Err-OutOfMemory.field-0-is at c.in-Err-OutOfMemory.ensures.answer in
    let stays = memory_stays c.args.owner before c.take_turn.new.self c.room_in.new.one.items c.room_in.new.other.items before.parts c.self.invariant c.in-Err-OutOfMemory.ensures.limits c.room_in.ensures.one c.room_in.ensures.other refl told in
    (subst (λ (l : OwnedView g.row.O.Denot). HasStayed c.args.owner (Err OutOfMemory) l (record { core = c.take_turn.new.self; owners = c.room_in.new.one.items; turns = c.room_in.new.other.items; parts = before.parts })) c.self.view_is stays).parts

pub returns-in-Err-OutOfMemory-clause-refused : goal.returns-in-Err-OutOfMemory-clause-refused
returns-in-Err-OutOfMemory-clause-refused g c =
    let before : OwnedView g.row.O.Denot = record { core = c.self.inside.core; owners = c.self.inside.owners.items; turns = c.self.inside.turns.items; parts = c.self.inside.parts.items } in
    let told = rw c.in-Err-OutOfMemory.field-0-is at c.in-Err-OutOfMemory.ensures.answer in
    let stays = memory_stays c.args.owner before c.take_turn.new.self c.room_in.new.one.items c.room_in.new.other.items before.parts c.self.invariant c.in-Err-OutOfMemory.ensures.limits c.room_in.ensures.one c.room_in.ensures.other refl told in
    (subst (λ (l : OwnedView g.row.O.Denot). HasStayed c.args.owner (Err OutOfMemory) l (record { core = c.take_turn.new.self; owners = c.room_in.new.one.items; turns = c.room_in.new.other.items; parts = before.parts })) c.self.view_is stays).same
