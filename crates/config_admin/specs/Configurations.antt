-- Configurations: the last word on each PID. OSGi Compendium 8, chapter 104 "Configuration Admin Service Specification"; the section stands at each group of words.
use Rattle.std.specs.Prelude.{ℕ, ◌||◌, List, ◌∷◌, ◌++◌, Bool, false, not, Option, Some, None, filter, find, codes}
use Rattle.std.specs.Option.{option_map_or}
use Rattle.std.specs.Str.{bytes_eq}
use Rattle.prop_map.specs.declared.properties.Property.{Property}
use Rattle.prop_map.specs.declared.value.Value.TheVariants.{Text}
use Rattle.prop_map.specs.Maps.{put}
use Rattle.prop_map.specs.Words.{insert_by, text_before}
use Rattle.config_admin.specs.declared.configuration.Configuration.{Configuration}

-- ---- PIDs ("The Persistent Identity", "Factory Configurations")

-- the PID of a factory's configuration with a name (126 is `~`)
abbrev pub factory_pid : List ℕ → List ℕ → List ℕ
factory_pid factory name = factory ++ 126 ∷ name

-- the configurations of a factory
abbrev pub of_factory : List ℕ → List Configuration → List Configuration
of_factory pid cs = filter (λ (c : Configuration). option_map_or (bytes_eq pid) c.factory false) cs

-- the configuration of a PID
abbrev pub of_pid : List ℕ → List Configuration → Option Configuration
of_pid pid cs = find (λ (c : Configuration). bytes_eq c.pid pid) cs

-- what a PID names: its configuration and those of a factory of this PID
abbrev pub named_by : List ℕ → List Configuration → List Configuration
named_by pid cs = filter (λ (c : Configuration). bytes_eq c.pid pid || option_map_or (bytes_eq pid) c.factory false) cs

-- ---- the table, by PID in byte order

abbrev pub pid_before : Configuration → Configuration → Bool
pid_before c d = text_before c.pid d.pid

abbrev pub without_pid : List ℕ → List Configuration → List Configuration
without_pid pid cs = filter (λ (c : Configuration). not (bytes_eq c.pid pid)) cs

-- with a configuration in place of the one of its PID
abbrev pub with_configuration : Configuration → List Configuration → List Configuration
with_configuration c cs = insert_by pid_before c (without_pid c.pid cs)

-- ---- what a configuration holds ("Configuration Properties", "Automatic Properties"): its PID, and its factory's, over what was given

abbrev pub own_configuration : List ℕ → List Property → Configuration
own_configuration pid given = record { pid = pid; factory = None; properties = put given (codes "service.pid") (Text pid) }

abbrev pub factory_configuration : List ℕ → List ℕ → List Property → Configuration
factory_configuration factory name given = record {
  pid = factory_pid factory name;
  factory = Some factory;
  properties = put (put given (codes "service.pid") (Text (factory_pid factory name))) (codes "service.factoryPid") (Text factory);
}
