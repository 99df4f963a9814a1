use Rattle.std.proofs.Common.{◌∙◌, sym}
use Rattle.std.proofs.lemmas.Result.{err_from_is_err_and}
use Rattle.scr_judgements.proofs.Changed.{no_memory_freely, no_room, tables_freely}
use Rattle.scr_judgements.proofs.changing.change_freely.Goals as goal

pub returns-then-not-has_room_for_command : goal.returns-then-not-has_room_for_command
returns-then-not-has_room_for_command c =
    no_room c.args.journal.now.limit c.args.state.now c.args.step.now c.args.reply c.args.tables c.requires.changes (sym c.has_room_for_command.ensures ∙ c.if-not-has_room_for_command.true)

pub asked_with-requires : goal.asked_with-requires
asked_with-requires c = record { kept = record { journal = c.args.journal.now; keeps = c.requires.keeps }; tables = tables_freely c.args.state.now c.args.step.now c.args.reply c.args.tables c.requires.changes }

pub returns-in_err-asked : goal.returns-in_err-asked
returns-in_err-asked c =
    let p = err_from_is_err_and c.from_residual.result c.from_residual.ensures.1 in
    rw (p.1) (no_memory_freely c.args.journal.now.limit c.args.state.now c.args.step.now c.args.reply c.args.tables c.requires.changes
    (sym c.has_room_for_command.ensures ∙ c.if-not-has_room_for_command.false) p.0 p.2)
