-- What must be so where a pass begins. For code and proofs; our own.
use Rattle.std.specs.Prelude.{◌≡◌, ◌<◌, ℕ, ◌&&◌, List, [], ◌∷◌, map, Bool, true, not}
use Rattle.std.specs.List.{Contains}
use Rattle.level_order.specs.Levels.{AreLevels}
use Rattle.prop_map.specs.Words.{has}
use Rattle.component_state.specs.declared.component.Component.{Component}
use Rattle.component_state.specs.declared.open_period.OpenPeriod.{OpenPeriod}
use Rattle.component_state.specs.declared.origin.Origin.{Origin}
use Rattle.component_state.specs.Components.{are_numbered, exists, numbers_of}
use Rattle.component_state.specs.Passes.{Stage}
use Rattle.component_state.specs.Periods.{is_current, is_open}
use Rattle.component_state.specs.Rows.{row_in}

-- an open period is that of a component configuration, with its service as it is now
pub record IsPeriodOf (cs : List Component) (p : OpenPeriod) : Type 0 where
  pub known : has (numbers_of cs) p.configuration ≡ true
  pub row : p.row ≡ row_in cs p.configuration p.row.id p.row.revision

-- no number stands twice
abbrev pub are_apart : List ℕ → Bool
are_apart [] = true
are_apart (n ∷ ns) = not (has ns n) && are_apart ns

abbrev pub configurations_open : List OpenPeriod → List ℕ
configurations_open open_now = map (λ (p : OpenPeriod). p.configuration) open_now

-- no component configuration is open twice, and what has no service number offers nothing
pub record ArePlain (open_now : List OpenPeriod) : Type 0 where
  pub apart : are_apart (configurations_open open_now) ≡ true
  pub silent : (p : OpenPeriod) → Contains open_now p → p.row.id ≡ 0 → p.row.interfaces ≡ []

-- a pass may begin: the next service has a number, the levels are those of the descriptions, each component configuration has a number of its own
-- and one of the descriptions, what is open is known and plain, no instance of an open one is of a period that ended, no open one is failed but for
-- those that fail in the entry, and these are failed unless they ceased
pub record IsReady (s : Stage) : Type 0 where
  pub next : 0 < s.next
  pub levels : AreLevels s.descriptions s.levels
  pub numbered : are_numbered s.components ≡ true
  pub described : (c : Component) → Contains s.components c → Contains s.descriptions c.description
  pub periods : (p : OpenPeriod) → Contains s.open_before p → IsPeriodOf s.components p
  pub plain : ArePlain s.open_before
  pub current : (o : Origin) → Contains s.origins o → is_open s.open_before o.configuration ≡ true → is_current s.open_before o ≡ true
  pub unmarked : (number : ℕ) → is_open s.open_before number ≡ true → has s.failed number ≡ true → has s.failing number ≡ true
  pub marked : (number : ℕ) → has s.failing number ≡ true → exists s.components number ≡ true → has s.failed number ≡ true
