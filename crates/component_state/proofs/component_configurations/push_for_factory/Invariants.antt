use Rattle.std.proofs.Common.{◌≡◌, ◌++◌, map, take}
use Rattle.component_state.specs.ComponentConfigurations.{component_for_factory}
use Rattle.component_state.proofs.component_configurations.push_for_factory.Given as goal

abbrev pub invariant-loop-named : goal.invariant-loop-named
invariant-loop-named l = l.found.items ≡ l.fn.found.items ++ map (component_for_factory l.bundle l.index l.description l.configurations l.factory) (map (λ c. c.now) (take l.named-index l.named-items))
