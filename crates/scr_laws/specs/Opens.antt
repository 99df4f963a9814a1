-- What is open, said of the registered services alone, without levels.
use Rattle.std.specs.Prelude.{◌≡◌, ℕ, ◌==◌, ◌&&◌, List, [], ◌∷◌, map, Bool, true, not}
use Rattle.std.specs.List.{Contains, list_any}
use Rattle.component_state.specs.declared.component.Component.{Component}
use Rattle.component_state.specs.declared.origin.Origin.{Origin}
use Rattle.component_state.specs.declared.open_period.OpenPeriod.{OpenPeriod}
use Rattle.component_state.specs.Components.{are_numbered, existing}
use Rattle.component_state.specs.Inside.Ready.{ArePlain, IsPeriodOf}
use Rattle.component_state.specs.Periods.{is_current, is_open}
use Rattle.component_state.specs.Scratch.{is_satisfied}
use Rattle.level_order.specs.Levels.{AreLevels}
use Rattle.prop_map.specs.Words.{has}
use Rattle.scr_world.specs.declared.world.World.{World}
use Rattle.scr_world.specs.Levels.{levels_of}
use Rattle.scr_world.specs.Tables.{descriptions_of}
use Rattle.scr_world.specs.Worlds.{origins_of, registered_services}

-- a component configuration of this number exists and passes a test
abbrev pub some_numbered : (Component → Bool) → List Component → ℕ → Bool
some_numbered test cs number = list_any (λ (c : Component). (c.number == number) && test c) cs

-- it hasn't ceased, has the configuration that its policy asks for, and each of its references has its minimum among the registered services
abbrev pub meets_all : World → Component → Bool
meets_all w c = c.exists && is_satisfied (registered_services w) c

-- a living instance is of a period of this component configuration that has ended
abbrev pub is_leaving : List OpenPeriod → ℕ → Origin → Bool
is_leaving open_ones number l = (l.configuration == number) && not (is_current open_ones l)

abbrev pub has_leaving : World → ℕ → Bool
has_leaving w number = list_any (is_leaving w.open_periods number) (origins_of w.instances)

-- and it isn't failed, and no living instance of a closed period is left
abbrev pub is_to_be_open : World → Component → Bool
is_to_be_open w c = meets_all w c && (not (has w.failed c.number) && not (has_leaving w c.number))

-- what the law rests on: levels are right, each component configuration has a number of its own, and one that lives has one of the descriptions, and each open
-- period is that of a component configuration, once, with its service as it is now
pub record IsInOrder (w : World) : Type 0 where
  pub levels : AreLevels (descriptions_of w.documents) (levels_of (descriptions_of w.documents))
  pub numbered : are_numbered w.components ≡ true
  pub described : (c : Component) → Contains (existing w.components) c → Contains (descriptions_of w.documents) c.description
  pub periods : (p : OpenPeriod) → Contains w.open_periods p → IsPeriodOf w.components p
  pub plain : ArePlain w.open_periods

-- open is just what is to be open
abbrev pub IsOpenByRegistered : World → Type 0
IsOpenByRegistered w = (number : ℕ) → is_open w.open_periods number ≡ some_numbered (is_to_be_open w) w.components number
