use Rattle.std.proofs.Common.{◌∙◌, sym}
use Rattle.std.proofs.lemmas.Result.{err_from_is_err_and}
use Rattle.scr_judgements.proofs.Changed.{freely, full, no_memory_unless_full, tables_unless_full}
use Rattle.scr_judgements.proofs.changing.change_asking.Goals as goal

pub asked_with-requires : goal.asked_with-requires
asked_with-requires c = record { kept = record { journal = c.args.journal.now; keeps = c.requires.keeps }; tables = tables_unless_full c.args.state.now c.args.step.now c.args.reply c.args.tables c.requires.changes }

pub returns-in_err-asked : goal.returns-in_err-asked
returns-in_err-asked c =
    let p = err_from_is_err_and c.from_residual.result c.from_residual.ensures.1 in
    rw (p.1) (no_memory_unless_full c.args.journal.now.limit c.args.state.now c.args.step.now c.args.reply c.args.tables c.requires.changes p.0 p.2)

pub returns-then-are_too_many : goal.returns-then-are_too_many
returns-then-are_too_many c =
    full c.args.journal.now.limit c.args.state.now c.args.step.now c.args.reply c.args.tables c.requires.changes (sym c.are_too_many.ensures ∙ c.if-are_too_many.true)

pub change-requires : goal.change-requires
change-requires c = record {
  keeps = c.requires.keeps;
  asked = c.in_ok-asked.ensures;
  changes = freely c.args.state.now c.args.step.now c.args.reply c.args.tables c.requires.changes (sym c.are_too_many.ensures ∙ c.if-are_too_many.false);
}
