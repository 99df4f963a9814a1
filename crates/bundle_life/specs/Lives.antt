-- The lives of bundles, and their events. OSGi Core 8, chapter 4 "Life Cycle Layer"; the section stands at each group of words. That a start is one step,
-- and the order of events within a step, are our own.
use Rattle.std.specs.Prelude.{ℕ, ◌+◌, ◌==◌, ◌&&◌, List, [], ◌∷◌, ◌++◌, map, Bool, true, false, not, Option, filter, find, if◌then◌else◌}
use Rattle.std.specs.Option.{option_map_or}
use Rattle.std.specs.Str.{bytes_eq}
use Rattle.osgi_version.specs.declared.version.Version.{Version}
use Rattle.osgi_version.specs.Same.{same_version}
use Rattle.prop_map.specs.Words.{has}
use Rattle.bundle_life.specs.declared.bundle.BundleLife.{BundleLife}
use Rattle.bundle_life.specs.declared.bundle.BundleState.{BundleState}
use Rattle.bundle_life.specs.declared.bundle.BundleState.TheVariants.{Installed, Resolved, Stopping, Active}
use Rattle.bundle_life.specs.declared.bundle.BundleEvent.{BundleEvent}

-- ---- the table

-- the installed bundles by number, how many numbers were given, and the events so far
pub record BundleTable : Type 0 where
  pub rows : List BundleLife
  pub numbered : ℕ
  pub events : List BundleEvent

abbrev pub no_bundles : BundleTable
no_bundles = record { rows = []; numbered = 0; events = [] }

-- ---- states ("Bundle State")

abbrev pub state_number : BundleState → ℕ
state_number Installed = 2
state_number Resolved = 4
state_number Stopping = 16
state_number Active = 32

abbrev pub is_active : BundleState → Bool
is_active Active = true
is_active _ = false

abbrev pub is_stopping : BundleState → Bool
is_stopping Stopping = true
is_stopping _ = false

abbrev pub is_installed : BundleState → Bool
is_installed Installed = true
is_installed _ = false

abbrev pub is_resolved : BundleState → Bool
is_resolved Resolved = true
is_resolved _ = false

-- ---- one bundle ("Bundle Identifiers")

abbrev pub bundle_of : List BundleLife → ℕ → Option BundleLife
bundle_of rows number = find (λ (b : BundleLife). b.number == number) rows

abbrev pub bundle_at : List BundleLife → List ℕ → Option BundleLife
bundle_at rows location = find (λ (b : BundleLife). bytes_eq b.location location) rows

-- the state of a bundle passes a test
abbrev pub state_is : (BundleState → Bool) → List BundleLife → ℕ → Bool
state_is test rows number = option_map_or (λ (b : BundleLife). test b.state) (bundle_of rows number) false

-- the first other bundle that has this symbolic name and version
abbrev pub namesake : List ℕ → Version → ℕ → List BundleLife → Option BundleLife
namesake name version but rows = find (λ (b : BundleLife). not (b.number == but) && (bytes_eq b.name name && same_version b.version version)) rows

-- ---- events ("Events")

abbrev pub events_of : ℕ → List ℕ → List BundleEvent
events_of number values = map (λ v. record { value = v; bundle = number }) values

-- the bundle of this number is in this state
abbrev pub in_state : ℕ → BundleState → BundleLife → BundleLife
in_state number state b = if b.number == number then record b { state = state } else b

-- a bundle gets into a state, and these events come
abbrev pub with_state : ℕ → BundleState → List ℕ → BundleTable → BundleTable
with_state number state values t = record t { rows = map (in_state number state) t.rows; events = t.events ++ events_of number values }

-- ---- steps

-- a bundle is installed ("Installing Bundles"): INSTALLED 1
abbrev pub new_row : ℕ → List ℕ → List ℕ → Version → BundleLife
new_row number location name version = record { number = number; location = location; name = name; version = version; state = Installed }

abbrev pub after_install : List ℕ → List ℕ → Version → BundleTable → BundleTable
after_install location name version t = record {
  rows = t.rows ++ new_row (t.numbered + 1) location name version ∷ [];
  numbered = t.numbered + 1;
  events = t.events ++ events_of (t.numbered + 1) (1 ∷ []);
}

-- RESOLVED 32 where it was INSTALLED ("Resolving Bundles")
abbrev pub resolving : ℕ → List BundleLife → List ℕ
resolving number rows = if state_is is_installed rows number then 32 ∷ [] else []

-- a bundle is started ("Starting Bundles"): STARTING 128, STARTED 2
abbrev pub after_start : ℕ → BundleTable → BundleTable
after_start number t = with_state number Active (resolving number t.rows ++ 128 ∷ 2 ∷ []) t

-- its stop begins ("Stopping Bundles"): STOPPING 256
abbrev pub stop_begun : ℕ → BundleTable → BundleTable
stop_begun number t = with_state number Stopping (256 ∷ []) t

-- the stops of these are complete: they are RESOLVED, and STOPPED 4 comes for each
abbrev pub resolved_among : List ℕ → BundleLife → BundleLife
resolved_among numbers b = if has numbers b.number then record b { state = Resolved } else b

abbrev pub stop_completed : List ℕ → BundleTable → BundleTable
stop_completed numbers t = record t { rows = map (resolved_among numbers) t.rows; events = t.events ++ map (λ n. record { value = 4; bundle = n }) numbers }

-- UNRESOLVED 64 where it was RESOLVED
abbrev pub unresolving : ℕ → List BundleLife → List ℕ
unresolving number rows = if state_is is_resolved rows number then 64 ∷ [] else []

-- the bundle of this number has another symbolic name and version, and is INSTALLED; its location stays
abbrev pub renamed : ℕ → List ℕ → Version → BundleLife → BundleLife
renamed number name version b = if b.number == number then record b { name = name; version = version; state = Installed } else b

-- a bundle is updated ("Updating Bundles"): UPDATED 8
abbrev pub after_update : ℕ → List ℕ → Version → BundleTable → BundleTable
after_update number name version t = record t { rows = map (renamed number name version) t.rows; events = t.events ++ events_of number (unresolving number t.rows ++ 8 ∷ []) }

-- a bundle is uninstalled ("Uninstalling Bundles"): UNINSTALLED 16; its number isn't given again
abbrev pub after_uninstall : ℕ → BundleTable → BundleTable
after_uninstall number t = record t { rows = filter (λ (b : BundleLife). not (b.number == number)) t.rows; events = t.events ++ events_of number (unresolving number t.rows ++ 16 ∷ []) }
