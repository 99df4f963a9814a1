use Rattle.std.proofs.Common.{◌∙◌, List, ap, arith, subst, sym}
use Rattle.scr_consequences.specs.Ends.{HaveNextGenerations}
use Rattle.scr_core.proofs.FarJournals.{far_ended}
use Rattle.scr_core.proofs.Rooms.{room_for_none}
use Rattle.scr_dues.specs.declared.making.Making.{Making}
use Rattle.scr_dues.specs.Makings.{IsThatFar}
use Rattle.scr_laws.proofs.NextNumbers.{next_generations}
use Rattle.scr_readers.proofs.CountedTurns.{counted_legal}
use Rattle.scr_readers.specs.Turns.{AreCounted}
use Rattle.scr_world.specs.Calls.{Grown}
use Rattle.scr_world.specs.Room.{has_room, needed_by}
use Rattle.scr_world.specs.Steps.{history_of}
use Rattle.scr_world.specs.declared.lines.TurnLine.{TurnLine}
use Rattle.scr_world.specs.declared.step.Step.{Step}
use Rattle.scr_world.specs.declared.world.World.{World}
use Rattle.scr_core.proofs.turns.end.Goals as goal

pub reopened_by-reopened-requires : goal.reopened_by-reopened-requires
reopened_by-reopened-requires c =
    let keeps = c.requires.keeps.state in
    subst (λ (w : World). HaveNextGenerations w.generations) (sym keeps.world) (next_generations c.args.journal.now.limit (history_of c.args.journal.now.entries) keeps.legal keeps.small)

pub grow_by_end-requires-clause-room : goal.grow_by_end-requires-clause-room
grow_by_end-requires-clause-room c =
    let left = c.room-room.ensures in
    ap (λ (x : Step). has_room c.args.journal.now.limit c.args.state.now.world (needed_by x)) c.in_ok-step.ensures ∙ room_for_none c.args.journal.now c.args.state.now c.requires.keeps.state (omega (arith, left))

pub end_turn-requires : goal.end_turn-requires
end_turn-requires c = subst (λ (lines : List TurnLine). AreCounted 1 lines) (sym c.requires.keeps.told) (counted_legal c.args.journal.now.limit (history_of c.args.journal.now.entries) c.requires.keeps.state.legal)

pub returns-clause-far : goal.returns-clause-far
returns-clause-far c =
    let grown = subst (λ (x : Step). Grown c.args.journal.now.limit c.args.journal.now.entries x c.grow_by_end.new.journal.entries) c.in_ok-step.ensures c.in_ok-shut.ensures.grown in
    subst (λ (m : Making). IsThatFar c.grow_by_end.new.state.world m) (sym c.after_end-known.ensures)
    (far_ended c.args.journal.now c.grow_by_end.new.journal c.args.state.now c.grow_by_end.new.state c.requires.keeps.state c.in_ok-shut.ensures.keeps c.args.making.now c.requires.far c.args.turn c.args.outcome grown)
