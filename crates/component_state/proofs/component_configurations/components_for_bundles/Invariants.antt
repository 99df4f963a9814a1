use Rattle.std.proofs.Common.{◌≡◌, take}
use Rattle.std.specs.List.{flat_map}
use Rattle.component_state.specs.ComponentConfigurations.{components_for_bundle}
use Rattle.component_state.proofs.component_configurations.components_for_bundles.Given as goal

abbrev pub invariant-loop-bundle : goal.invariant-loop-bundle
invariant-loop-bundle l = l.found.items ≡ flat_map (components_for_bundle l.index) (take l.bundle-index l.bundles)
