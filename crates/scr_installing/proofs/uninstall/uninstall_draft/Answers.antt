use Rattle.std.proofs.Common.{◌≡◌, ◌∙◌, List, ap, subst, sym, true}
use Rattle.std.specs.Prelude.{◌==◌, filter, not}
use Rattle.component_dto.specs.declared.description.Description.{Description}
use Rattle.scr_installing.proofs.FewerLevels.{uninstalled_levels}
use Rattle.scr_installing.proofs.RestingBundles.{uninstalled_asks}
use Rattle.scr_judgements.specs.Lasting.{AsksAsBefore}
use Rattle.scr_world.specs.Levels.{has_levels}
use Rattle.scr_world.specs.Tables.{descriptions_of}
use Rattle.scr_world.specs.declared.contents.Contents.{Contents}
use Rattle.scr_world.specs.declared.step.Step.{Step}
use Rattle.scr_installing.proofs.uninstall.uninstall_draft.Goals as goal

pub documents_draft-requires-clause-asks : goal.documents_draft-requires-clause-asks
documents_draft-requires-clause-asks c =
    subst (λ (x : Step). AsksAsBefore x c.args.state.now.world) (sym c.requires.command)
    (uninstalled_asks c.args.state.now.world c.args.bundle c.requires.idle)

pub described_still-requires : goal.described_still-requires
described_still-requires c =
    subst (λ (ds : List Description). has_levels ds ≡ true) (sym (c.in_ok-descriptions.ensures ∙ ap descriptions_of (c.as_slice-2.ensures ∙ c.in_ok-documents.ensures
    ∙ ap (λ (cs : List Contents). filter (λ (c' : Contents). not (c'.bundle == c.args.bundle)) cs) c.as_slice.ensures)))
    (uninstalled_levels c.args.state.now c.requires.kept c.args.bundle c.requires.idle)
