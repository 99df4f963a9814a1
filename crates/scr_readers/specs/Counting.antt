-- For which component configurations a configuration counts. OSGi Compendium 8, chapter 112, "Component Configuration",
-- "Configuration Policy", "Configuration PID"; chapter 104, "Factory Configurations". The order is our own.
use Rattle.std.specs.Prelude.{ℕ, ◌&&◌, ◌||◌, List, Bool, true, false, not, filter}
use Rattle.std.specs.List.{list_any}
use Rattle.std.specs.Option.{option_map_or}
use Rattle.std.specs.Str.{bytes_eq}
use Rattle.component_dto.specs.declared.description.ConfigurationPolicy.{ConfigurationPolicy}
use Rattle.component_dto.specs.declared.description.ConfigurationPolicy.TheVariants.{Optional, Require, Ignore}
use Rattle.component_state.specs.declared.component.Component.{Component}
use Rattle.component_state.specs.Components.{existing, numbers_of}
use Rattle.config_admin.specs.declared.configuration.Configuration.{Configuration}
use Rattle.scr_world.specs.declared.world.World.{World}

-- the policy lets configurations count
abbrev pub lets_count : ConfigurationPolicy → Bool
lets_count Optional = true
lets_count Require = true
lets_count Ignore = false

-- a configuration of a factory names a component configuration
abbrev pub names : Configuration → Component → Bool
names k c = option_map_or (bytes_eq k.pid) c.pid false

-- a PID is that of a factory with configurations
abbrev pub is_factory : List Configuration → List ℕ → Bool
is_factory ks pid = list_any (λ (k : Configuration). option_map_or (bytes_eq pid) k.factory false) ks

-- a configuration's PID is one of the description's, and no factory's
abbrev pub is_asked_for : List Configuration → Configuration → Component → Bool
is_asked_for ks k c = list_any (bytes_eq k.pid) c.description.configuration_pids && not (is_factory ks k.pid)

-- a configuration counts for a component configuration
abbrev pub counts_for : List Configuration → Configuration → Component → Bool
counts_for ks k c = lets_count c.description.configuration_policy && (names k c || is_asked_for ks k c)

-- the numbers of the component configurations that haven't ceased and for which a configuration counts, in order
abbrev pub counting_numbers : World → Configuration → List ℕ
counting_numbers w k = numbers_of (filter (counts_for w.configurations k) (existing w.components))
