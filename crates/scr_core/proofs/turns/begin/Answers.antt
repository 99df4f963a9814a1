use Rattle.std.proofs.Common.{◌≡◌, ◌∙◌, Some, ap, subst, sym}
use Rattle.scr_core.proofs.Taking.{no_room}
use Rattle.scr_state.specs.declared.state.State.{State}
use Rattle.scr_world.specs.Calls.{FindsNoRoom}
use Rattle.scr_world.specs.Dues.{next_begin}
use Rattle.scr_world.specs.Room.{has_room, needed_by}
use Rattle.scr_world.specs.declared.step.Step.{Step}
use Rattle.scr_core.proofs.turns.begin.Goals as goal

pub returns-then-not-has_room-clause-answer : goal.returns-then-not-has_room-clause-answer
returns-then-not-has_room-clause-answer c =
    let full =
    ap (λ (x : Step). has_room c.args.journal.now.limit c.args.state.now.world (needed_by x)) (sym c.deref.ensures)
    ∙ ap (λ n. has_room c.args.journal.now.limit c.args.state.now.world n) (sym c.needed_by.ensures.value)
    ∙ sym (c.has_room.ensures c.args.state.now c.requires.keeps.state) ∙ c.if-not-has_room.true in
    subst (λ l. FindsNoRoom l c.args.journal.now.entries c.args.journal.now.entries) c.requires.keeps.its_limit
    (no_room c.args.journal.now c.args.state.now c.requires.keeps.state c.args.step.value c.requires.next full)

pub begin_prepared-requires-clause-next : goal.begin_prepared-requires-clause-next
begin_prepared-requires-clause-next c = subst (λ (s : State). next_begin s.world ≡ Some c.args.step.value) (sym c.in-Ok.ensures.state) c.requires.next
