-- How many component configurations there are to be, found without making them. Our own.
use Rattle.std.specs.Prelude.{◌≡◌, ◌<◌, ◌+◌, ℕ, List, length, Option, Some, None}
use Rattle.component_dto.specs.declared.description.ConfigurationPolicy.{ConfigurationPolicy}
use Rattle.component_dto.specs.declared.description.ConfigurationPolicy.TheVariants.{Optional, Require, Ignore}
use Rattle.component_dto.specs.declared.description.Description.{Description}
use Rattle.config_admin.specs.declared.configuration.Configuration.{Configuration}
use Rattle.config_admin.specs.Configurations.{of_factory}
use Rattle.component_state.specs.ComponentConfigurations.{factory_of}

abbrev pub how_many_of : List Configuration → Option (List ℕ) → ℕ
how_many_of cs (Some factory) = length (of_factory factory cs)
how_many_of cs None = 1

-- for a description: as many as its factory has configurations, or just one where it has none
abbrev pub how_many_for : List Configuration → Description → ConfigurationPolicy → ℕ
how_many_for cs d Optional = how_many_of cs (factory_of cs d.configuration_pids)
how_many_for cs d Require = how_many_of cs (factory_of cs d.configuration_pids)
how_many_for cs d Ignore = 1

-- where so many take room they leave what is left, or there are more than there is room for
abbrev pub LeavesRoom : ℕ → ℕ → Option ℕ → Type 0
LeavesRoom room number None = room < number
LeavesRoom room number (Some left) = left + number ≡ room
