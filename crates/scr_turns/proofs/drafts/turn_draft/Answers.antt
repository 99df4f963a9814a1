use Rattle.std.proofs.Common.{subst, sym}
use Rattle.scr_state.specs.Keeps.{IsDraft}
use Rattle.scr_state.specs.declared.draft.Draft.{Draft}
use Rattle.scr_turns.proofs.TurnDrafted.{drafted, known}
use Rattle.scr_turns.proofs.drafts.turn_draft.Goals as goal

pub changes-requires : goal.changes-requires
changes-requires c = record { turn = c.requires.turn; known = known c.args.state.now c.requires.kept; satisfied = c.requires.kept.keeps.satisfied }

pub returns : goal.returns
returns c =
    subst (λ (d : Draft). IsDraft c.args.state.now c.args.step.now d) (sym c.draft_with.ensures)
    (drafted c.args.state.now c.args.step.now c.in_ok-changes.changes c.requires.kept c.requires.turn c.in_ok-changes.ensures)
