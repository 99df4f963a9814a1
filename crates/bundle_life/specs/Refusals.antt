-- When a step of a bundle is refused, and what it answers and leaves where it isn't. The state in which an update or an uninstall may come, the names that may stand side by side, the order
-- of refusals and the limit are our own.
use Rattle.std.specs.Prelude.{◌≡◌, ℕ, ◌+◌, List, [], ◌∷◌, Bool, nat_le, length, is_none, Option, Some, None, Result, Ok, Err, option_map, option_and_then, if◌then◌else◌}
use Rattle.std.specs.Option.{option_map_or}
use Rattle.osgi_version.specs.declared.version.Version.{Version}
use Rattle.prop_map.specs.Words.{first_some}
use Rattle.bundle_life.specs.declared.bundle.BundleLife.{BundleLife}
use Rattle.bundle_life.specs.declared.life_fault.LifeFault.{LifeFault}
use Rattle.bundle_life.specs.declared.life_fault.LifeFault.TheVariants.{NoBundle, WrongState, StillStopping, SameName, BundlesFull, OutOfMemory}
use Rattle.bundle_life.specs.declared.table.Installed.{Installed}
use Rattle.bundle_life.specs.declared.table.Installed.TheVariants.{New, There}
use Rattle.bundle_life.specs.Lives.{BundleTable, after_install, after_start, bundle_at, bundle_of, is_active, is_stopping, namesake, state_is, state_number, stop_begun}

abbrev pub refuse_if : Bool → LifeFault → Option LifeFault
refuse_if b fault = if b then Some fault else None

abbrev pub no_bundle : ℕ → BundleTable → Option LifeFault
no_bundle number t = refuse_if (is_none (bundle_of t.rows number)) (NoBundle number)

-- a test of a bundle that is there
abbrev pub of_bundle : ℕ → BundleTable → (BundleLife → Option LifeFault) → Option LifeFault
of_bundle number t test = option_and_then test (bundle_of t.rows number)

abbrev pub still_active : ℕ → BundleTable → Option LifeFault
still_active number t = of_bundle number t (λ (b : BundleLife). refuse_if (is_active b.state) (WrongState (state_number b.state)))

abbrev pub still_stopping : ℕ → BundleTable → Option LifeFault
still_stopping number t = of_bundle number t (λ (b : BundleLife). refuse_if (is_stopping b.state) StillStopping)

-- another bundle has this symbolic name and version
abbrev pub same_name : List ℕ → Version → ℕ → BundleTable → Option LifeFault
same_name name version but t = option_map (λ (b : BundleLife). SameName b.number) (namesake name version but t.rows)

-- it would be the 129th
abbrev pub bundles_full : BundleTable → Option LifeFault
bundles_full t = refuse_if (nat_le 128 (length t.rows)) BundlesFull

-- ---- each step, its refusals in order

-- a known location is answered and isn't refused ("Installing Bundles")
abbrev pub install_refusal : List ℕ → List ℕ → Version → BundleTable → Option LifeFault
install_refusal location name version t = if is_none (bundle_at t.rows location) then first_some (same_name name version 0 t ∷ bundles_full t ∷ []) else None

abbrev pub start_refusal : ℕ → BundleTable → Option LifeFault
start_refusal number t = first_some (no_bundle number t ∷ still_stopping number t ∷ [])

abbrev pub stop_refusal : ℕ → BundleTable → Option LifeFault
stop_refusal number t = no_bundle number t

abbrev pub update_refusal : ℕ → List ℕ → Version → BundleTable → Option LifeFault
update_refusal number name version t = first_some (no_bundle number t ∷ still_active number t ∷ still_stopping number t ∷ same_name name version number t ∷ [])

abbrev pub uninstall_refusal : ℕ → BundleTable → Option LifeFault
uninstall_refusal number t = first_some (no_bundle number t ∷ still_active number t ∷ still_stopping number t ∷ [])

-- a call succeeds only where nothing refuses it, and fails with that refusal; for want of memory only where there is none
abbrev pub IsRefusedBy : {A : Type 0} → Option LifeFault → Result A LifeFault → Type 0
IsRefusedBy refusal (Ok x) = refusal ≡ None
IsRefusedBy refusal (Err OutOfMemory) = refusal ≡ None
IsRefusedBy refusal (Err fault) = refusal ≡ Some fault

-- ---- what a call answers and leaves

-- a known location is answered, and nothing changes

abbrev pub install_answer : List ℕ → BundleTable → Installed
install_answer location t = option_map_or (λ (b : BundleLife). There b.number) (bundle_at t.rows location) (New (t.numbered + 1))

abbrev pub installed_once : List ℕ → List ℕ → Version → BundleTable → BundleTable
installed_once location name version t = if is_none (bundle_at t.rows location) then after_install location name version t else t

-- a start of an ACTIVE bundle changes nothing ("Starting Bundles")
abbrev pub started_once : ℕ → BundleTable → BundleTable
started_once number t = if state_is is_active t.rows number then t else after_start number t

-- nor does a stop of a bundle that isn't ACTIVE ("Stopping Bundles")
abbrev pub stop_begun_once : ℕ → BundleTable → BundleTable
stop_begun_once number t = if state_is is_active t.rows number then stop_begun number t else t
