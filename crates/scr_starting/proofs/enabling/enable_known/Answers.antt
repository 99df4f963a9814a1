use Rattle.std.proofs.Common.{◌∙◌, ap, refl, subst, sym}
use Rattle.std.specs.Prelude.{not}
use Rattle.std.proofs.lemmas.Result.{err_from_is_err_and}
use Rattle.scr_judgements.specs.Asked.{are_too_many}
use Rattle.scr_judgements.proofs.Changed.{asks_takes, not_refused, refused_full}
use Rattle.scr_judgements.specs.Changing.{AreTablesBy, ChangesFreely}
use Rattle.scr_judgements.proofs.Judged.{judged_step, no_memory_judged, unchanged}
use Rattle.scr_judgements.proofs.Plain.{refused_plainly}
use Rattle.scr_starting.proofs.ComponentFlags.{enable_tables}
use Rattle.scr_starting.proofs.EnabledAlready.{already_enabled, already_free}
use Rattle.scr_world.specs.declared.command.Command.TheVariants.{Enable}
use Rattle.scr_world.specs.declared.reply.CoreFault.TheVariants.{ComponentsFull}
use Rattle.scr_world.specs.declared.reply.Reply.TheVariants.{Done}
use Rattle.scr_world.specs.declared.step.Step.{Step}
use Rattle.scr_starting.proofs.enabling.enable_known.Goals as goal

pub returns-then-is_all_enabled : goal.returns-then-is_all_enabled
returns-then-is_all_enabled c =
    let already = sym c.is_all_enabled.ensures ∙ c.if-is_all_enabled.true in
    judged_step c.args.journal.now.limit c.args.state.now c.args.step.now (Enable c.args.bundle c.args.name.now) _ c.requires.command
    (unchanged c.args.journal.now.limit c.args.state.now (Enable c.args.bundle c.args.name.now)
    (c.requires.refused ∙ already_free c.args.journal.now c.args.state.now c.requires.keeps c.args.bundle c.args.name.now already)
    Done (ap not (already_enabled c.args.journal.now c.args.state.now c.requires.keeps c.args.bundle c.args.name.now already)) refl)

pub returns-in_err-tables : goal.returns-in_err-tables
returns-in_err-tables c =
    let p = err_from_is_err_and c.from_residual.result c.from_residual.ensures.1 in
    rw (p.1) (judged_step c.args.journal.now.limit c.args.state.now c.args.step.now (Enable c.args.bundle c.args.name.now) _ c.requires.command
    (no_memory_judged c.args.journal.now.limit c.args.state.now (Enable c.args.bundle c.args.name.now) refl (asks_takes c.args.state.now.world (Enable c.args.bundle c.args.name.now) c.requires.refused) p.0 p.2))

pub asked_with-requires-clause-tables : goal.asked_with-requires-clause-tables
asked_with-requires-clause-tables c =
    subst (λ (x : Step). AreTablesBy c.args.state.now x c.in_ok-tables.tables) (sym c.requires.command)
    (enable_tables c.args.journal.now c.args.state.now c.requires.keeps c.args.bundle c.args.name.now c.in_ok-tables.tables c.in_ok-tables.ensures)

pub returns-in_err-asked : goal.returns-in_err-asked
returns-in_err-asked c =
    let p = err_from_is_err_and c.from_residual-in_err-asked.result c.from_residual-in_err-asked.ensures.1 in
    rw (p.1) (judged_step c.args.journal.now.limit c.args.state.now c.args.step.now (Enable c.args.bundle c.args.name.now) _ c.requires.command
    (no_memory_judged c.args.journal.now.limit c.args.state.now (Enable c.args.bundle c.args.name.now) refl (asks_takes c.args.state.now.world (Enable c.args.bundle c.args.name.now) c.requires.refused) p.0 p.2))

pub returns-then-are_too_many : goal.returns-then-are_too_many
returns-then-are_too_many c =
    judged_step c.args.journal.now.limit c.args.state.now c.args.step.now (Enable c.args.bundle c.args.name.now) _ c.requires.command
    (refused_plainly c.args.journal.now.limit c.args.state.now (Enable c.args.bundle c.args.name.now) refl ComponentsFull
    (refused_full c.args.state.now.world (Enable c.args.bundle c.args.name.now) c.requires.refused (ap (λ (x : Step). are_too_many x c.args.state.now.world) (sym c.requires.command) ∙ sym c.are_too_many.ensures ∙ c.if-are_too_many.true)))

pub returns-then-is_enabled : goal.returns-then-is_enabled
returns-then-is_enabled c =
    judged_step c.args.journal.now.limit c.args.state.now c.args.step.now (Enable c.args.bundle c.args.name.now) _ c.requires.command
    (unchanged c.args.journal.now.limit c.args.state.now (Enable c.args.bundle c.args.name.now)
    (not_refused c.args.state.now.world (Enable c.args.bundle c.args.name.now) c.requires.refused (ap (λ (x : Step). are_too_many x c.args.state.now.world) (sym c.requires.command) ∙ sym c.are_too_many.ensures ∙ c.if-are_too_many.false))
    Done (ap not (sym c.is_enabled.ensures ∙ c.if-is_enabled.true)) refl)

pub change-requires-clause-changes : goal.change-requires-clause-changes
change-requires-clause-changes c =
    subst (λ (x : Step). ChangesFreely c.args.state.now x Done c.in_ok-tables.tables) (sym c.requires.command) (record {
      refusals = not_refused c.args.state.now.world (Enable c.args.bundle c.args.name.now) c.requires.refused (ap (λ (x : Step). are_too_many x c.args.state.now.world) (sym c.requires.command) ∙ sym c.are_too_many.ensures ∙ c.if-are_too_many.false);
      effect = ap not (sym c.is_enabled.ensures ∙ c.if-is_enabled.false);
      answers = refl;
      after = enable_tables c.args.journal.now c.args.state.now c.requires.keeps c.args.bundle c.args.name.now c.in_ok-tables.tables c.in_ok-tables.ensures;
    })
