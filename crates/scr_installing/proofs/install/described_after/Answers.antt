use Rattle.std.proofs.Common.{◌≡◌, ◌∙◌, ◌++◌, List, ap, subst, sym}
use Rattle.std.proofs.lemmas.Result.{err_from_is_err_and}
use Rattle.std.specs.Prelude.{Err}
use Rattle.component_dto.specs.declared.description.Description.{Description}
use Rattle.scr_installing.proofs.Allowing.{allowed_no_memory}
use Rattle.scr_installing.proofs.Installs.{install_allowed, install_cyclic, install_full, install_same, install_takes}
use Rattle.scr_installing.specs.Described.{AreDescribed, IsDescribed}
use Rattle.scr_world.specs.declared.command.Command.TheVariants.{Install}
use Rattle.scr_installing.proofs.install.described_after.Goals as goal

both_are : (all these those old new : List Description) → all ≡ these ++ those → these ≡ old → those ≡ new → all ≡ old ++ new
both_are all these those old new is first second = is ∙ ap (λ ds. ds ++ those) first ∙ ap (λ ds. old ++ ds) second

pub returns-in-Some : goal.returns-in-Some
returns-in-Some c = install_same c.args.state.now.world c.args.doc.now c.requires.unknown c.in-Some.bundle c.in-Some.ensures

pub returns-in_err-all : goal.returns-in_err-all
returns-in_err-all c =
    let p = err_from_is_err_and c.from_residual.result c.from_residual.ensures.1 in
    rw p.1 (allowed_no_memory c.args.state.now.world (Install c.args.doc.now) (install_takes c.args.state.now.world c.args.doc.now c.requires.unknown (sym c.in_default.is ∙ c.namesake.ensures)) p.0 p.2)

pub returns-in_err-described : goal.returns-in_err-described
returns-in_err-described c =
    let p = err_from_is_err_and c.from_residual-in_err-described.result c.from_residual-in_err-described.ensures.1 in
    let all = both_are _ _ _ _ _ c.in_ok-all.ensures (c.as_slice.ensures ∙ c.requires.descriptions) c.as_slice-2.ensures in
    rw (p.1, p.2)
    (
    install_cyclic c.args.state.now.world c.args.doc.now c.requires.unknown (sym c.in_default.is ∙ c.namesake.ensures) c.in_err-described.field-0.0
    (subst (λ (ds : List Description). IsDescribed ds (Err c.in_err-described.field-0.0)) all c.in_err-described.ensures)
    )

pub returns-then-is_full : goal.returns-then-is_full
returns-then-is_full c =
    let all = both_are _ _ _ _ _ c.in_ok-all.ensures (c.as_slice.ensures ∙ c.requires.descriptions) c.as_slice-2.ensures in
    install_full c.args.state.now.world c.args.doc.now c.requires.unknown (sym c.in_default.is ∙ c.namesake.ensures) c.in_ok-described.described
    (subst (λ (ds : List Description). AreDescribed ds c.in_ok-described.described) all c.in_ok-described.ensures) (sym c.is_full.ensures ∙ c.if-is_full.true)

pub returns : goal.returns
returns c =
    let all = both_are _ _ _ _ _ c.in_ok-all.ensures (c.as_slice.ensures ∙ c.requires.descriptions) c.as_slice-2.ensures in
    install_allowed c.args.state.now.world c.args.doc.now c.requires.unknown (sym c.in_default.is ∙ c.namesake.ensures) c.in_ok-described.described
    (subst (λ (ds : List Description). AreDescribed ds c.in_ok-described.described) all c.in_ok-described.ensures) (sym c.is_full.ensures ∙ c.if-is_full.false)
