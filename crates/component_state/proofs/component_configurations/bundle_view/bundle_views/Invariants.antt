use Rattle.std.proofs.Common.{◌≡◌, take}
use Rattle.component_state.proofs.component_configurations.bundle_view.bundle_views.Given as goal

abbrev pub invariant-loop-bundle : goal.invariant-loop-bundle
invariant-loop-bundle l = l.views.items ≡ take l.bundle-index l.bundles
