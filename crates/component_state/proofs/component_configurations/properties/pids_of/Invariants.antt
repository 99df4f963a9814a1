use Rattle.std.proofs.Common.{◌≡◌, map, take}
use Rattle.config_admin.specs.declared.configuration.Configuration.{Configuration}
use Rattle.component_state.proofs.component_configurations.properties.pids_of.Given as goal

abbrev pub invariant-loop-configuration : goal.invariant-loop-configuration
invariant-loop-configuration l = l.pids.items ≡ map (λ (c : Configuration). c.pid) (map (λ c. c.now) (take l.configuration-index l.configurations))
