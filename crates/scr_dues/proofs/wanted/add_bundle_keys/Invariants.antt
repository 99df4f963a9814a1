use Rattle.std.proofs.Common.{◌≡◌, ◌++◌, filter, map, take}
use Rattle.bundle_life.specs.declared.bundle.BundleLife.{BundleLife}
use Rattle.scr_dues.specs.Desires.{are_desiring}
use Rattle.scr_dues.specs.Wanting.{is_missing, keys_where}
use Rattle.scr_dues.proofs.wanted.add_bundle_keys.Given as goal

abbrev pub invariant-loop-bundle : goal.invariant-loop-bundle
invariant-loop-bundle l = l.found.items ≡ l.initial.found.items ++ filter (is_missing l.world) (keys_where l.world (are_desiring l.desiring) l.component l.period (map (λ (b : BundleLife). b.number) (take l.bundle-index l.bundles)))
