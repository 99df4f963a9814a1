use Rattle.std.proofs.Common.{◌≡◌, map, take}
use Rattle.component_state.specs.ComponentConfigurations.{component_after}
use Rattle.component_state.proofs.component_rows.components_after.Given as goal

abbrev pub invariant-loop-component : goal.invariant-loop-component
invariant-loop-component l = l.after.items ≡ map (component_after l.place l.these) (map (λ c. c.now) (take l.component-index l.before))
