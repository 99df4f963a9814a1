-- What holds of the component configurations of a platform between two passes. For code and proofs; our own.
use Rattle.std.specs.Prelude.{◌≡◌, ◌<◌, ◌≤◌, ℕ, true, false}
use Rattle.std.specs.List.{Contains}
use Rattle.prop_map.specs.Words.{has}
use Rattle.component_state.specs.declared.open_period.OpenPeriod.{OpenPeriod}
use Rattle.component_state.specs.declared.origin.Origin.{Origin}
use Rattle.component_state.specs.Components.{numbers_of}
use Rattle.component_state.specs.ComponentStates.{States, origins_of}
use Rattle.component_state.specs.Inside.Ready.{ArePlain, IsPeriodOf, are_apart}
use Rattle.component_state.specs.Periods.{is_current, is_open}

-- each component configuration has a number of its own, and none above how many were numbered; what is open is known and plain, was opened before, isn't
-- failed, and no living instance of it is of a period that ended
pub record AreSound (s : States) : Type 0 where
  pub apart : are_apart (numbers_of s.components) ≡ true
  pub up_to : (number : ℕ) → has (numbers_of s.components) number ≡ true → number ≤ s.numbered
  pub periods : (p : OpenPeriod) → Contains s.open_periods p → IsPeriodOf s.components p
  pub plain : ArePlain s.open_periods
  pub earlier : (p : OpenPeriod) → Contains s.open_periods p → p.opened < s.passes
  pub current : (o : Origin) → Contains (origins_of s) o → is_open s.open_periods o.configuration ≡ true → is_current s.open_periods o ≡ true
  pub unmarked : (number : ℕ) → is_open s.open_periods number ≡ true → has s.failed number ≡ false
