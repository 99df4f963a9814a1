use Rattle.std.proofs.Common.{◌≡◌, take}
use Rattle.std.specs.Prelude.{filter, map}
use Rattle.bundle_life.specs.declared.bundle.BundleLife.{BundleLife}
use Rattle.scr_world.specs.Consequences.{has_stopped}
use Rattle.scr_consequences.proofs.stopped_bundles.stopped_among.Given as goal

abbrev pub invariant-loop-bundle : goal.invariant-loop-bundle
invariant-loop-bundle l = l.found.items ≡ map (λ (b : BundleLife). b.number) (filter (has_stopped l.components l.instances) (take l.bundle-index l.bundles))
