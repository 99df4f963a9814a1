use Rattle.std.proofs.Common.{◌≡◌, ◌+◌, ◌++◌, drop, map}
use Rattle.component_state.specs.ComponentConfigurations.{new_components, with_numbers}
use Rattle.component_state.proofs.component_rows.push_new.Given as goal

-- with those of them that are left they are all
abbrev pub invariant-loop-component : goal.invariant-loop-component
invariant-loop-component l = l.after.items ++ with_numbers (l.numbered + 1) (new_components (map (λ c. c.now) l.before) (drop l.component-index l.these))
    ≡ l.fn.after.items ++ with_numbers (l.fn.numbered + 1) (new_components (map (λ c. c.now) l.before) l.these)
