use Rattle.std.proofs.Common.{◌∙◌, List, ap, subst}
use Rattle.std.proofs.lemmas.Result.{err_from_is_err_and}
use Rattle.component_dto.specs.declared.description.Description.{Description}
use Rattle.scr_installing.proofs.Allowing.{allowed_no_memory}
use Rattle.scr_installing.proofs.Updates.{update_answer, update_takes}
use Rattle.scr_installing.specs.Described.{IsDescribed}
use Rattle.scr_world.specs.Tables.{descriptions_of}
use Rattle.scr_world.specs.declared.command.Command.TheVariants.{Update}
use Rattle.scr_installing.proofs.update.described_after.Goals as goal

pub returns-in_err-descriptions : goal.returns-in_err-descriptions
returns-in_err-descriptions c =
    let p = err_from_is_err_and c.from_residual.result c.from_residual.ensures.1 in
    rw p.1 (allowed_no_memory c.args.world.now (Update c.args.bundle c.args.doc.now) (update_takes c.args.world.now c.args.bundle c.args.doc.now c.requires.free) p.0 p.2)

pub returns : goal.returns
returns c =
    update_answer c.args.world.now c.args.bundle c.args.doc.now c.requires.free c.with_levels.result
    (subst (λ (ds : List Description). IsDescribed ds c.with_levels.result) (c.in_ok-descriptions.ensures ∙ ap descriptions_of c.requires.documents) c.with_levels.ensures)
