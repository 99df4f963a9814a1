use Rattle.std.proofs.Common.{◌≡◌, List, drop, fold, map}
use Rattle.config_admin.specs.declared.configuration.Configuration.{Configuration}
use Rattle.prop_map.specs.Maps.{merge}
use Rattle.prop_map.specs.declared.properties.Property.{Property}
use Rattle.component_state.proofs.component_configurations.properties.put_configured.Given as goal

abbrev pub invariant-loop-configuration : goal.invariant-loop-configuration
invariant-loop-configuration l = fold (λ (ps : List Property) (c : Configuration). merge ps c.properties) l.properties (map (λ c. c.now) (drop l.configuration-index l.configurations))
    ≡ fold (λ (ps : List Property) (c : Configuration). merge ps c.properties) l.fn.properties (map (λ c. c.now) l.configurations)
