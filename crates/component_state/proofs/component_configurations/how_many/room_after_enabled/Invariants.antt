use Rattle.std.proofs.Common.{◌≡◌, ◌+◌, drop, length}
use Rattle.component_state.specs.ComponentConfigurations.{components_for_descriptions}
use Rattle.component_state.proofs.component_configurations.how_many.room_after_enabled.Given as goal

-- what was taken so far leaves the room that those that are left may take
abbrev pub invariant-loop-index : goal.invariant-loop-index
invariant-loop-index l = l.room + length (components_for_descriptions l.bundle l.configurations 0 l.bundle.descriptions l.bundle.enabled)
    ≡ l.fn.room + length (components_for_descriptions l.bundle l.configurations l.index (drop l.index l.descriptions) (drop l.index l.enabled))
