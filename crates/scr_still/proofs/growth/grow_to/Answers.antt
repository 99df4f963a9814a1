use Rattle.std.proofs.Common.{ap}
use Rattle.journal_core.specs.Rooms.{JournalRows}
use Rattle.scr_world.specs.declared.step.Step.{Step}
use Rattle.scr_still.proofs.StillGrowth.{grown, kept, room_to_add, shut}
use Rattle.scr_still.proofs.growth.grow_to.Goals as goal

pub add_bare-requires-clause-room : goal.add_bare-requires-clause-room
add_bare-requires-clause-room c =
    room_to_add c.args.journal.now c.args.state.now c.requires.keeps c.args.step.value c.requires.shuts c.requires.may c.requires.room c.args.undo.now
    c.requires.draft c.swap_in.new.world c.swap_in.ensures.world

pub returns-in-Ok-clause-keeps : goal.returns-in-Ok-clause-keeps
returns-in-Ok-clause-keeps c =
    kept c.args.journal.now c.args.state.now c.requires.keeps c.args.step.value c.requires.shuts c.requires.may c.requires.room c.args.undo.now
    c.requires.draft c.swap_in.new.world c.swap_in.ensures.world
    c.add_bare.new.journal (c.in-Ok.ensures.ok c.swap_in.new.world) c.args.entries c.requires.entries

pub returns-in-Ok-clause-limit : goal.returns-in-Ok-clause-limit
returns-in-Ok-clause-limit c = ap (λ (j : JournalRows Step). j.limit) (c.in-Ok.ensures.ok c.swap_in.new.world)

pub returns-in-Ok-clause-grown : goal.returns-in-Ok-clause-grown
returns-in-Ok-clause-grown c =
    grown c.args.journal.now c.args.state.now c.requires.keeps c.args.step.value c.requires.shuts c.requires.may c.requires.room c.args.undo.now
    c.requires.draft c.swap_in.new.world c.swap_in.ensures.world
    c.add_bare.new.journal (c.in-Ok.ensures.ok c.swap_in.new.world)

pub returns-in-Ok-clause-shut : goal.returns-in-Ok-clause-shut
returns-in-Ok-clause-shut c =
    shut c.args.journal.now c.args.state.now c.requires.keeps c.args.step.value c.requires.shuts c.requires.may c.requires.room c.args.undo.now
    c.requires.draft c.swap_in.new.world c.swap_in.ensures.world
    c.add_bare.new.journal (c.in-Ok.ensures.ok c.swap_in.new.world)

pub swap_in-requires : goal.swap_in-requires
swap_in-requires c = record { room = c.requires.draft.room }
