use Rattle.std.proofs.Common.{◌≡◌, ◌++◌, ◌≤◌, drop}
use Rattle.component_state.specs.ComponentConfigurations.{components_for_descriptions}
use Rattle.component_state.proofs.component_configurations.push_enabled.Given as goal

-- with those of the descriptions that are left they are those of all
abbrev pub invariant-loop-index : goal.invariant-loop-index
invariant-loop-index l = l.found.items ++ components_for_descriptions l.bundle l.configurations l.index (drop l.index l.descriptions) (drop l.index l.enabled)
    ≡ l.fn.found.items ++ components_for_descriptions l.bundle l.configurations 0 l.bundle.descriptions l.bundle.enabled
