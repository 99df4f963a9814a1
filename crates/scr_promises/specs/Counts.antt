-- Of which configurations component configurations are made. OSGi Compendium 8, chapter 112, "Component Configuration", "Configuration PID", "Component Properties".
use Rattle.std.specs.Prelude.{◌≡◌, List, [], Bool, true, Option, None, filter, filter_map, is_some, if◌then◌else◌}
use Rattle.std.specs.List.{Contains, list_all, list_any}
use Rattle.std.specs.Option.{option_and_then}
use Rattle.std.specs.Str.{bytes_eq}
use Rattle.component_state.specs.declared.component.Component.{Component}
use Rattle.component_state.specs.ComponentConfigurations.{component_properties, counting, factory_of, with_number}
use Rattle.component_state.specs.Components.{existing, numbers_of}
use Rattle.config_admin.specs.declared.configuration.Configuration.{Configuration}
use Rattle.config_admin.specs.Configurations.{of_pid}
use Rattle.scr_laws.specs.Askeds.{asked_in}
use Rattle.scr_readers.specs.Counting.{counting_numbers, counts_for, lets_count}
use Rattle.scr_world.specs.declared.world.World.{World}

-- the configuration of a factory that names a component configuration
abbrev pub naming : List Configuration → Component → Option Configuration
naming ks c = option_and_then (λ pid. of_pid pid ks) c.pid

-- for each PID of its description, in order, the configuration that counts, if there is one; for none where the policy is `ignore`
abbrev pub counting_in : List Configuration → Component → List (Option Configuration)
counting_in ks c = if lets_count c.description.configuration_policy then counting ks (factory_of ks c.description.configuration_pids) (naming ks c) c.description.configuration_pids else []

-- the configurations of which it is made, in this order
abbrev pub made_of : List Configuration → Component → List Configuration
made_of ks c = filter_map (λ k. k) (counting_in ks c)

-- a component configuration is one that there is to be. Its properties are those of its description and then those of the configurations of which it is made, and it
-- is configured where each of its PIDs has one. These are the configurations that count for it, and no others
pub record IsMadeOfCounting (w : World) (c : Component) : Type 0 where
  pub asked : Contains (asked_in w) (record c { number = 0; properties = component_properties c.description (made_of w.configurations c); changed = None })
  pub properties : c.properties ≡ with_number c.number (component_properties c.description (made_of w.configurations c))
  pub configured : c.configured ≡ list_all is_some (counting_in w.configurations c)
  pub made : (k : Configuration) → Contains (made_of w.configurations c) k → Contains w.configurations k × (counts_for w.configurations k c ≡ true)
  pub counted : (k : Configuration) → Contains w.configurations k → counts_for w.configurations k c ≡ true → Contains (made_of w.configurations c) k

-- the configuration of its PID is one of these
abbrev pub is_part : Configuration → List Configuration → Bool
is_part k these = list_any (λ (other : Configuration). bytes_eq other.pid k.pid) these

-- each component configuration that exists is made so, and the numbers that are told for a configuration are those of the ones that are made of it
pub record CountRightly (w : World) : Type 0 where
  pub made : (c : Component) → Contains (existing w.components) c → IsMadeOfCounting w c
  pub told : (k : Configuration) → Contains w.configurations k → counting_numbers w k ≡ numbers_of (filter (λ (c : Component). is_part k (made_of w.configurations c)) (existing w.components))
