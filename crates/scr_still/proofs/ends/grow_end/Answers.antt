use Rattle.std.proofs.Common.{arith, subst, sym}
use Rattle.scr_consequences.specs.Ends.{HaveNextGenerations}
use Rattle.scr_laws.proofs.NextNumbers.{next_generations}
use Rattle.scr_still.proofs.StillGrowth.{counted_in}
use Rattle.scr_world.specs.Steps.{history_of}
use Rattle.scr_world.specs.declared.world.World.{World}
use Rattle.scr_still.proofs.StillEndGrowth.{grown, has_its_room, kept, shut}
use Rattle.scr_still.proofs.ends.grow_end.Goals as goal

pub leaving_of-requires-clause-entries : goal.leaving_of-requires-clause-entries
leaving_of-requires-clause-entries c =
    let counted = counted_in c.args.journal.now c.args.state.now c.requires.keeps in
    omega (arith, counted, c.next_length-entries.ensures)

pub leaving_of-requires-clause-next : goal.leaving_of-requires-clause-next
leaving_of-requires-clause-next c =
    let keeps = c.requires.keeps in
    subst (λ (w : World). HaveNextGenerations w.generations) (sym keeps.world) (next_generations c.args.journal.now.limit (history_of c.args.journal.now.entries) keeps.legal keeps.small)

pub enter-requires : goal.enter-requires
enter-requires c =
    has_its_room c.args.journal.now c.args.state.now c.requires.keeps c.args.turn c.args.outcome c.requires.still c.requires.may c.requires.room c.args.undo.now
    c.requires.draft c.swap_in.new.world c.swap_in.ensures.world c.in_ok-leaving.leaving c.in_ok-leaving.ensures

pub returns-in-Ok-clause-keeps : goal.returns-in-Ok-clause-keeps
returns-in-Ok-clause-keeps c =
    kept c.args.journal.now c.args.state.now c.requires.keeps c.args.turn c.args.outcome c.requires.still c.requires.may c.requires.room c.args.undo.now
    c.requires.draft c.swap_in.new.world c.swap_in.ensures.world c.in_ok-leaving.leaving c.in_ok-leaving.ensures
    c.in-Ok.lost c.in-Ok.ensures.lost c.enter.new.journal c.in-Ok.ensures.entry c.take_over.new.world c.take_over.ensures.world

pub returns-in-Ok-clause-grown : goal.returns-in-Ok-clause-grown
returns-in-Ok-clause-grown c =
    grown c.args.journal.now c.args.state.now c.requires.keeps c.args.turn c.args.outcome c.requires.still c.requires.may c.requires.room c.args.undo.now
    c.requires.draft c.swap_in.new.world c.swap_in.ensures.world c.in_ok-leaving.leaving c.in_ok-leaving.ensures
    c.in-Ok.lost c.in-Ok.ensures.lost c.enter.new.journal c.in-Ok.ensures.entry

pub returns-in-Ok-clause-shut : goal.returns-in-Ok-clause-shut
returns-in-Ok-clause-shut c =
    shut c.args.journal.now c.args.state.now c.requires.keeps c.args.turn c.args.outcome c.requires.still c.requires.may c.requires.room c.args.undo.now
    c.requires.draft c.swap_in.new.world c.swap_in.ensures.world c.in_ok-leaving.leaving c.in_ok-leaving.ensures
    c.in-Ok.lost c.in-Ok.ensures.lost c.enter.new.journal c.in-Ok.ensures.entry c.take_over.result c.take_over.ensures.shut

pub swap_in-requires : goal.swap_in-requires
swap_in-requires c = record { room = c.requires.draft.room }
