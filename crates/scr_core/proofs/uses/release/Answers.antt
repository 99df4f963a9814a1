use Rattle.std.proofs.Common.{◌∙◌, ap, arith, subst, sym}
use Rattle.scr_core.proofs.Rooms.{room_for_none}
use Rattle.scr_core.proofs.Tokens.{stands_at_its_place}
use Rattle.scr_world.specs.Legal.{MayCome}
use Rattle.scr_world.specs.Room.{has_room, needed_by}
use Rattle.scr_world.specs.declared.step.Step.{Step}
use Rattle.scr_core.proofs.uses.release.Goals as goal

pub grow_still-requires-clause-may : goal.grow_still-requires-clause-may
grow_still-requires-clause-may c =
    subst (λ (x : Step). MayCome c.args.state.now.world x) (sym c.in_ok-step.ensures)
    (stands_at_its_place c.args.note.now c.args.state.now.world.tokens (sym c.has_token.ensures ∙ c.if-not-has_token.false))

pub grow_still-requires-clause-room : goal.grow_still-requires-clause-room
grow_still-requires-clause-room c =
    let left = c.room-room.ensures in
    ap (λ (x : Step). has_room c.args.journal.now.limit c.args.state.now.world (needed_by x)) c.in_ok-step.ensures ∙ room_for_none c.args.journal.now c.args.state.now c.requires.keeps (omega (arith, left))
