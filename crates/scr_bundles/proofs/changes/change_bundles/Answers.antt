use Rattle.std.proofs.Common.{sym, subst}
use Rattle.bundle_life.specs.Lives.{BundleTable}
use Rattle.bundle_life.specs.Numbers.{SavedBundles}
use Rattle.scr_bundles.proofs.Undone.{saved_before}
use Rattle.scr_bundles.specs.Changes.{WasSaved}
use Rattle.scr_world.specs.Tables.{bundles_by}
use Rattle.scr_bundles.proofs.changes.change_bundles.Goals as goal

pub returns-clause-saved : goal.returns-clause-saved
returns-clause-saved c =
    let t = c.args.bundles.now in
    subst (λ (now : BundleTable). WasSaved t now c.in_ok-saved.saved) (sym c.in_ok-change.ensures.ok)
    (subst (λ (saved : SavedBundles). WasSaved t (bundles_by c.args.step.now t) saved) (sym c.in_ok-saved.ensures) (saved_before t c.args.step.now c.requires))
