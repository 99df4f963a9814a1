-- The events of a bundle. OSGi Core 8, chapter 4, "Events" and "Bundle State": INSTALLED 1, STARTED 2, STOPPED 4,
-- UPDATED 8, UNINSTALLED 16, RESOLVED 32, UNRESOLVED 64, STARTING 128, STOPPING 256.
use Rattle.std.specs.Prelude.{◌≡◌, ℕ, ◌==◌, ◌&&◌, ◌||◌, List, [], ◌∷◌, map, filter, Bool, true, false, Option, Some, None, option_map, if◌then◌else◌}
use Rattle.bundle_life.specs.declared.bundle.BundleEvent.{BundleEvent}
use Rattle.bundle_life.specs.declared.bundle.BundleLife.{BundleLife}
use Rattle.bundle_life.specs.declared.bundle.BundleState.{BundleState}
use Rattle.bundle_life.specs.declared.bundle.BundleState.TheVariants.{Active, Installed, Resolved, Stopping}
use Rattle.bundle_life.specs.Lives.{BundleTable, bundle_of}

-- the events of one bundle
abbrev pub events_for : ℕ → List BundleEvent → List ℕ
events_for number events = map (λ (e : BundleEvent). e.value) (filter (λ (e : BundleEvent). e.bundle == number) events)

-- an event may come behind another one, or as the first one behind 0
abbrev pub may_follow : ℕ → ℕ → Bool
may_follow last value =
    if last == 0 then value == 1 else (
    if (last == 1) || (last == 8) then (value == 32) || ((value == 8) || (value == 16)) else (
    if last == 32 then value == 128 else (
    if last == 128 then value == 2 else (
    if last == 2 then value == 256 else (
    if last == 256 then value == 4 else (
    if last == 4 then (value == 128) || (value == 64) else (
    if last == 64 then (value == 8) || (value == 16) else false)))))))

-- each comes behind the one before it
abbrev pub are_in_order : ℕ → List ℕ → Bool
are_in_order last [] = true
are_in_order last (value ∷ values) = may_follow last value && are_in_order value values

-- the last event, 0 where there is none
abbrev pub last_of : ℕ → List ℕ → ℕ
last_of last [] = last
last_of last (value ∷ values) = last_of value values

-- the state that a bundle has behind its last event; a bundle that has none yet, or was uninstalled, isn't there
abbrev pub state_behind : ℕ → Option BundleState
state_behind last =
    if (last == 1) || (last == 8) then Some Installed else (if last == 2 then Some Active else (if last == 256 then Some Stopping else (if last == 4 then Some Resolved else None)))

-- the events of a bundle are in order, and the last one tells its state
pub record HasLived (t : BundleTable) (number : ℕ) : Type 0 where
  pub order : are_in_order 0 (events_for number t.events) ≡ true
  pub state : option_map (λ (b : BundleLife). b.state) (bundle_of t.rows number) ≡ state_behind (last_of 0 (events_for number t.events))
