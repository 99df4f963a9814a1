use Rattle.std.proofs.Common.{◌≡◌, ◌+◌, drop, length}
use Rattle.component_state.specs.ComponentConfigurations.{component_configurations}
use Rattle.component_state.proofs.component_configurations.how_many.room_after_bundles.Given as goal

-- what was taken so far leaves the room that those that are left may take
abbrev pub invariant-loop-bundle : goal.invariant-loop-bundle
invariant-loop-bundle l = l.room + length (component_configurations l.bundles l.configurations) ≡ l.fn.room + length (component_configurations (drop l.bundle-index l.bundles) l.configurations)
