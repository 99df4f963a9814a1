use Rattle.std.proofs.Common.{◌∙◌, sym}
use Rattle.std.specs.Prelude.{◌==◌}
use Rattle.bundle_life.specs.declared.bundle.BundleLife.{BundleLife}
use Rattle.component_state.proofs.AskingLemmas.{any_mapped}
use Rattle.scr_causes.proofs.wanted.is_bundle.Goals as goal

pub returns : goal.returns
returns c = c.is_some_bundle.ensures ∙ sym (any_mapped (λ (b : BundleLife). b.number) (λ n. n == c.args.number) c.args.bundles.now)
