use Rattle.std.proofs.Common.{subst, sym}
use Rattle.scr_installing.proofs.DocumentDrafts.{documents_commands, documents_tables}
use Rattle.scr_judgements.specs.Drafting.{AreTablesBy}
use Rattle.scr_judgements.specs.declared.drafting.TablesAfter.{TablesAfter}
use Rattle.scr_installing.proofs.drafting.documents_draft.Goals as goal

pub draft_as_before-requires-clause-command : goal.draft_as_before-requires-clause-command
draft_as_before-requires-clause-command c = documents_commands c.args.step.now c.requires.command

pub draft_as_before-requires-clause-tables : goal.draft_as_before-requires-clause-tables
draft_as_before-requires-clause-tables c =
    subst (λ (t : TablesAfter). AreTablesBy c.args.state.now c.args.step.now t) (sym c.tables_with-tables.ensures)
    (documents_tables c.args.state.now c.args.documents c.args.described c.requires.described c.args.step.now c.requires.command c.requires.documents)
