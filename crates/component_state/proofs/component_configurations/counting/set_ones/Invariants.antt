use Rattle.std.proofs.Common.{◌≡◌, map, take}
use Rattle.std.specs.List.{filter_map}
use Rattle.std.specs.Option.{option_copied}
use Rattle.component_state.proofs.component_configurations.counting.set_ones.Given as goal

abbrev pub invariant-loop-configuration : goal.invariant-loop-configuration
invariant-loop-configuration l = map (λ c. c.now) l.found.items ≡ filter_map (λ c. c) (map option_copied (take l.configuration-index l.these))
