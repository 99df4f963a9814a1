use Rattle.std.proofs.Common.{◌≡◌, ◌++◌, ◌∷◌, [], ap, sym, ◌∙◌, refl, subst, true, false}
use Rattle.std.specs.Prelude.{nat_lt, vec_capacity, vec_len}
use Rattle.scr_requests.specs.Cores.{CoreView}
use Rattle.platform_hall.specs.Desks.{DeskView, IsDesk}
use Rattle.platform_hall.specs.Platforms.{Begins, has_due, has_object, has_room}
use Rattle.platform_hall.proofs.Desks.{desk_begun, running_fits}
use Rattle.platform_hall.proofs.Keeping.{fit_begun}
use Rattle.platform_hall.proofs.Settlings.{begins_as, begins_legal}
use Rattle.platform_hall.proofs.Taking.{full_step, idle_step, taken_step}
use Rattle.platform_hall.proofs.Seen.{core_same, desk_of}
use Rattle.platform_hall.proofs.core_desk.CoreDeskDesk.take.Goals as goal

pub invariant_of-self-in-Ok-Turn : goal.invariant_of-self-in-Ok-Turn
invariant_of-self-in-Ok-Turn g c =
    let took = rw c.in-Ok-Turn.field-0-is at c.in-Ok-Turn.ensures.answer in
    let turns = c.self.inside.turns.items in
    let grew = c.push_reserved.ensures.items ∙ ap (λ xs. xs ++ c.in-Ok-Turn.token ∷ []) c.reserve.ensures.items ∙ ap (λ t. turns ++ t ∷ []) took.0 in (
      subst (λ xs. IsDesk {O = g.row.O.Denot} c.take_turn.new.self xs c.self.inside.held.items) (sym grew)
          (desk_begun c.self.inside.core c.take_turn.new.self turns c.self.inside.held.items c.in-Ok-Turn.work c.note_legal.ensures (c.in-Ok-Turn.ensures.limits, took.1, took.2) c.self.invariant.0),
      fit_begun c.self.inside.core c.take_turn.new.self c.in-Ok-Turn.work c.self.inside.kept.items c.note_legal.ensures (c.in-Ok-Turn.ensures.limits, took.1, took.2) c.self.invariant.1,
    )

pub returns-in-Ok-Turn-clause-running : goal.returns-in-Ok-Turn-clause-running
returns-in-Ok-Turn-clause-running g c =
    let took = rw c.in-Ok-Turn.field-0-is at c.in-Ok-Turn.ensures.answer in
    (begins_as c.self.inside.core c.take_turn.new.self c.in-Ok-Turn.work c.note_legal.ensures (c.in-Ok-Turn.ensures.limits, took.1, took.2)).running

pub returns-in-Ok-Turn-clause-fits : goal.returns-in-Ok-Turn-clause-fits
returns-in-Ok-Turn-clause-fits g c =
    let took = rw c.in-Ok-Turn.field-0-is at c.in-Ok-Turn.ensures.answer in
    running_fits c.take_turn.new.self c.in-Ok-Turn.work.number c.in-Ok-Turn.work
    (begins_legal c.self.inside.core c.take_turn.new.self c.in-Ok-Turn.work c.note_legal.ensures (c.in-Ok-Turn.ensures.limits, took.1, took.2))
    (begins_as c.self.inside.core c.take_turn.new.self c.in-Ok-Turn.work c.note_legal.ensures (c.in-Ok-Turn.ensures.limits, took.1, took.2)).running

pub returns-in-Ok-Turn-clause-objects : goal.returns-in-Ok-Turn-clause-objects
returns-in-Ok-Turn-clause-objects g c = λ n.
    let took = rw c.in-Ok-Turn.field-0-is at c.in-Ok-Turn.ensures.answer in
    (begins_as c.self.inside.core c.take_turn.new.self c.in-Ok-Turn.work c.note_legal.ensures (c.in-Ok-Turn.ensures.limits, took.1, took.2)).objects n
    ∙ ap (λ (p : CoreView). has_object p n) (core_same c.self.view_is)

pub returns-in-Ok-Turn-clause-step : goal.returns-in-Ok-Turn-clause-step
returns-in-Ok-Turn-clause-step g c =
    let took = rw c.in-Ok-Turn.field-0-is at c.in-Ok-Turn.ensures.answer in
    let step = taken_step c.self.inside.core c.take_turn.new.self c.in-Ok-Turn.work (c.in-Ok-Turn.ensures.limits, took.1, took.2) in
    subst (λ (d : DeskView g.row.O.Denot). (has_due d.core ≡ true) × (has_room d.core ≡ true) × (Begins d.core c.in-Ok-Turn.work c.take_turn.new.self × (c.self.inside.told.items ≡ d.told) × (c.self.inside.kept.items ≡ d.kept))) c.self.view_is
    (step.0, step.1, (step.2, refl, refl))

pub returns-in-Ok-Idle-clause-step : goal.returns-in-Ok-Idle-clause-step
returns-in-Ok-Idle-clause-step g c =
    let idle = rw c.in-Ok-Idle.field-0-is at c.in-Ok-Idle.ensures.answer in
    let step = idle_step c.self.inside.core c.take_turn.new.self c.in-Ok-Idle.ensures.limits idle in
    subst (λ d. (has_due d.core ≡ false) × (desk_of c.take_turn.new.self c.self.inside.held.items c.self.inside.told.items c.self.inside.kept.items (nat_lt (vec_len c.self.inside.kept) (vec_capacity c.self.inside.kept)) ≡ d)) c.self.view_is
    (step.0, ap (λ p. desk_of p c.self.inside.held.items c.self.inside.told.items c.self.inside.kept.items (nat_lt (vec_len c.self.inside.kept) (vec_capacity c.self.inside.kept))) step.1)

pub returns-in-Err-JournalFull-clause-step : goal.returns-in-Err-JournalFull-clause-step
returns-in-Err-JournalFull-clause-step g c =
    let full = rw c.in-Err-JournalFull.field-0-is at c.in-Err-JournalFull.ensures.answer in
    let step = full_step c.self.inside.core c.take_turn.new.self c.in-Err-JournalFull.ensures.limits full in
    subst (λ d. (has_due d.core ≡ true) × (has_room d.core ≡ false) × (desk_of c.take_turn.new.self c.self.inside.held.items c.self.inside.told.items c.self.inside.kept.items (nat_lt (vec_len c.self.inside.kept) (vec_capacity c.self.inside.kept)) ≡ d)) c.self.view_is
    (step.0, step.1, ap (λ p. desk_of p c.self.inside.held.items c.self.inside.told.items c.self.inside.kept.items (nat_lt (vec_len c.self.inside.kept) (vec_capacity c.self.inside.kept))) step.2)
