use Rattle.std.proofs.Common.{◌∙◌, refl, subst, sym, Some}
use Rattle.std.proofs.lemmas.Result.{err_from_is_err_and}
use Rattle.scr_judgements.proofs.Judged.{judged_step, no_memory_freely, no_room}
use Rattle.scr_judgements.specs.Changing.{ChangesFreely}
use Rattle.scr_starting.proofs.Stops.{tables}
use Rattle.scr_world.specs.declared.command.Command.TheVariants.{Stop}
use Rattle.scr_world.specs.declared.reply.Reply.TheVariants.{Done}
use Rattle.scr_world.specs.declared.step.Step.{Step}
use Rattle.scr_starting.proofs.stopping.stop_active.Goals as goal

pub returns-then-not-has_room_for_command : goal.returns-then-not-has_room_for_command
returns-then-not-has_room_for_command c =
    judged_step c.args.journal.now.limit c.args.state.now c.args.step.now (Stop c.args.bundle) _ c.requires.command
    (no_room c.args.journal.now.limit c.args.state.now (Stop c.args.bundle) c.requires.free c.requires.effect (sym c.has_room_for_command.ensures ∙ c.if-not-has_room_for_command.true))

pub returns-in_err-registry : goal.returns-in_err-registry
returns-in_err-registry c =
    let p = err_from_is_err_and c.from_residual.result c.from_residual.ensures.1 in
    rw (p.1) (judged_step c.args.journal.now.limit c.args.state.now c.args.step.now (Stop c.args.bundle) _ c.requires.command
    (no_memory_freely c.args.journal.now.limit c.args.state.now (Stop c.args.bundle) c.requires.free (sym c.has_room_for_command.ensures ∙ c.if-not-has_room_for_command.false) p.0 p.2))

pub change_freely-requires-clause-changes : goal.change_freely-requires-clause-changes
change_freely-requires-clause-changes c =
    subst (λ (x : Step). ChangesFreely c.args.state.now x Done (record c.none-tables.result { registry = Some c.in_ok-registry.registry })) (sym c.requires.command) (record {
      refusals = c.requires.free;
      effect = c.requires.effect;
      answers = refl;
      after = tables c.args.journal.now c.args.state.now c.requires.keeps c.args.bundle c.in_ok-registry.registry c.none-tables.result c.none-tables.ensures c.in_ok-registry.ensures;
    })
