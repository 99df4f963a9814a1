use Rattle.std.proofs.Common.{subst, sym}
use Rattle.scr_judgements.proofs.LastingDrafts.{components_stand, lasting, stands}
use Rattle.scr_state.specs.Keeps.{IsDraft}
use Rattle.scr_state.specs.declared.draft.Draft.{Draft}
use Rattle.scr_judgements.proofs.lasting.draft_of_all.Goals as goal

pub failed_still-requires-clause-components : goal.failed_still-requires-clause-components
failed_still-requires-clause-components c = components_stand c.requires.kept.journal c.args.state.now c.requires.kept.keeps c.args.step.now c.requires.command c.requires.asks c.requires.all

pub returns : goal.returns
returns c =
    subst (λ (d : Draft). IsDraft c.args.state.now c.args.step.now d) (sym c.lasting_draft.ensures)
    (lasting c.args.state.now c.args.step.now c.in_ok-failed.failed c.args.tables
    (stands c.requires.kept.journal c.args.state.now c.requires.kept.keeps c.args.step.now c.requires.command c.requires.asks c.requires.all c.in_ok-failed.failed c.in_ok-failed.ensures) c.requires.tables)
