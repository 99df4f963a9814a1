use Rattle.std.proofs.Common.{subst, sym}
use Rattle.scr_judgements.proofs.Drafted.{drafted_step, kept_asked}
use Rattle.scr_judgements.proofs.Unchanged.{kept_legal}
use Rattle.scr_state.specs.Keeps.{IsDraft}
use Rattle.scr_state.specs.declared.draft.Draft.{Draft}
use Rattle.scr_judgements.proofs.lasting.draft_of_counted.Goals as goal

pub asked_still-requires-clause-asked : goal.asked_still-requires-clause-asked
asked_still-requires-clause-asked c = kept_asked c.requires.kept.journal c.args.state.now c.requires.kept.keeps

pub asked_still-requires-clause-legal : goal.asked_still-requires-clause-legal
asked_still-requires-clause-legal c = kept_legal c.args.state.now c.requires.kept

pub returns : goal.returns
returns c =
    subst (λ (d : Draft). IsDraft c.args.state.now c.args.step.now d) (sym c.command_draft.ensures)
    (drafted_step c.args.state.now c.args.step.now c.in_ok-asked.asked c.args.tables c.in_ok-asked.ensures c.requires.tables)
