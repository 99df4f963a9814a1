use Rattle.std.proofs.Common.{◌∙◌, ap, arith, subst, sym}
use Rattle.scr_core.proofs.Draining.{drain_may, drains, some_awaits}
use Rattle.scr_core.proofs.Rooms.{room_for_none}
use Rattle.scr_world.specs.Legal.{MayCome}
use Rattle.scr_world.specs.Room.{has_room, needed_by}
use Rattle.scr_world.specs.declared.step.Step.{Step}
use Rattle.scr_core.proofs.drains.drain.Goals as goal

pub unreachable-requires : goal.unreachable-requires
unreachable-requires c = some_awaits c.args.journal.now c.args.state.now c.requires.keeps c.args.key c.requires.awaits c.in_default.ensures

pub grow_still-requires-clause-may : goal.grow_still-requires-clause-may
grow_still-requires-clause-may c = subst (λ (x : Step). MayCome c.args.state.now.world x) (sym c.in_ok-step.ensures) (drain_may c.args.state.now.world c.args.key c.in-Some.instance c.in-Some.ensures)

pub grow_still-requires-clause-room : goal.grow_still-requires-clause-room
grow_still-requires-clause-room c =
    let left = c.room-room.ensures in
    ap (λ (x : Step). has_room c.args.journal.now.limit c.args.state.now.world (needed_by x)) c.in_ok-step.ensures ∙ room_for_none c.args.journal.now c.args.state.now c.requires.keeps (omega (arith, left))

pub returns-clause-ok : goal.returns-clause-ok
returns-clause-ok c =
    drains c.args.journal.now c.args.state.now c.requires.keeps c.args.key c.in-Some.instance c.in_ok-step.step.value c.grow_still.new.journal.entries c.in-Some.ensures c.in_ok-step.ensures c.in_ok-grow_still.ensures.grown
