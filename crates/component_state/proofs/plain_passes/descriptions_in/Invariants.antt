use Rattle.std.proofs.Common.{◌≡◌, take}
use Rattle.std.specs.Prelude.{flat_map}
use Rattle.component_state.specs.declared.rows.BundleRow.{BundleRow}
use Rattle.component_state.proofs.plain_passes.descriptions_in.Given as goal

abbrev pub invariant-loop-bundle : goal.invariant-loop-bundle
invariant-loop-bundle l = l.found.items ≡ flat_map (λ (b : BundleRow). b.descriptions) (take l.bundle-index l.bundles)
