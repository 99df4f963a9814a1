use Rattle.std.proofs.Common.{◌∙◌, refl, subst, sym}
use Rattle.std.proofs.lemmas.Result.{err_from_is_err_and}
use Rattle.scr_judgements.proofs.Judged.{judged_step, no_memory_freely, no_room}
use Rattle.scr_judgements.specs.Changing.{ChangesFreely}
use Rattle.scr_starting.proofs.ComponentFlags.{disable_tables}
use Rattle.scr_world.specs.declared.command.Command.TheVariants.{Disable}
use Rattle.scr_world.specs.declared.reply.Reply.TheVariants.{Done}
use Rattle.scr_world.specs.declared.step.Step.{Step}
use Rattle.scr_starting.proofs.enabling.disable_enabled.Goals as goal

pub returns-then-not-has_room_for_command : goal.returns-then-not-has_room_for_command
returns-then-not-has_room_for_command c =
    judged_step c.args.journal.now.limit c.args.state.now c.args.step.now (Disable c.args.bundle c.args.name.now) _ c.requires.command
    (no_room c.args.journal.now.limit c.args.state.now (Disable c.args.bundle c.args.name.now) c.requires.free c.requires.effect (sym c.has_room_for_command.ensures ∙ c.if-not-has_room_for_command.true))

pub returns-in_err-tables : goal.returns-in_err-tables
returns-in_err-tables c =
    let p = err_from_is_err_and c.from_residual.result c.from_residual.ensures.1 in
    rw (p.1) (judged_step c.args.journal.now.limit c.args.state.now c.args.step.now (Disable c.args.bundle c.args.name.now) _ c.requires.command
    (no_memory_freely c.args.journal.now.limit c.args.state.now (Disable c.args.bundle c.args.name.now) c.requires.free (sym c.has_room_for_command.ensures ∙ c.if-not-has_room_for_command.false) p.0 p.2))

pub change_freely-requires-clause-changes : goal.change_freely-requires-clause-changes
change_freely-requires-clause-changes c =
    subst (λ (x : Step). ChangesFreely c.args.state.now x Done c.in_ok-tables.tables) (sym c.requires.command) (record {
      refusals = c.requires.free;
      effect = c.requires.effect;
      answers = refl;
      after = disable_tables c.args.journal.now c.args.state.now c.requires.keeps c.args.bundle c.args.name.now c.in_ok-tables.tables c.in_ok-tables.ensures;
    })
