use Rattle.std.proofs.Common.{subst, sym}
use Rattle.scr_installing.proofs.RestingBundles.{installed_asks}
use Rattle.scr_judgements.proofs.Drafted.{kept_asked}
use Rattle.scr_judgements.specs.Lasting.{AsksAsBefore}
use Rattle.scr_world.specs.declared.step.Step.{Step}
use Rattle.scr_installing.proofs.install.install_draft.Goals as goal

pub documents_draft-requires-clause-asks : goal.documents_draft-requires-clause-asks
documents_draft-requires-clause-asks c =
    subst (λ (x : Step). AsksAsBefore x c.args.state.now.world) (sym c.requires.command)
    (installed_asks c.args.state.now.world (kept_asked c.requires.kept.journal c.args.state.now c.requires.kept.keeps) c.args.doc.now)
