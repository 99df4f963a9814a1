-- What refuses an uninstall refuses an update.
use Rattle.std.proofs.Common.{◌≡◌, ◌≢◌, ℕ, List, [], ◌∷◌, ◌++◌, refl, Option, Some, None, Err}
use Rattle.osgi_version.specs.declared.version.Version.{Version}
use Rattle.prop_map.specs.Words.{first_some}
use Rattle.bundle_life.specs.Lives.{BundleTable}
use Rattle.bundle_life.specs.Refusals.{IsRefusedBy, no_bundle, same_name, still_active, still_stopping, uninstall_refusal, update_refusal}
use Rattle.bundle_life.specs.declared.life_fault.LifeFault.{LifeFault}
use Rattle.bundle_life.specs.declared.life_fault.LifeFault.TheVariants.{NoBundle, WrongState, StillStopping, SameName, BundlesFull, OutOfMemory}

first_more : {X : Type 0} (tests more : List (Option X)) (x : X) → first_some tests ≡ Some x → first_some (tests ++ more) ≡ Some x
first_more [] more x is = absurd cc
first_more (Some y ∷ tests) more x is = is
first_more (None ∷ tests) more x is = first_more tests more x is

module _ (number : ℕ) (name : List ℕ) (version : Version) (t : BundleTable) where
  also : (fault : LifeFault) → uninstall_refusal number t ≡ Some fault → update_refusal number name version t ≡ Some fault
  also fault is = first_more (no_bundle number t ∷ still_active number t ∷ still_stopping number t ∷ []) (same_name name version number t ∷ []) fault is

  pub update_refused : (A B : Type 0) (fault : LifeFault) → fault ≢ OutOfMemory → IsRefusedBy {A = A} (uninstall_refusal number t) (Err fault) → IsRefusedBy {A = B} (update_refusal number name version t) (Err fault)
  update_refused A B (NoBundle b) plain is = also (NoBundle b) is
  update_refused A B (WrongState s) plain is = also (WrongState s) is
  update_refused A B StillStopping plain is = also StillStopping is
  update_refused A B (SameName b) plain is = also (SameName b) is
  update_refused A B BundlesFull plain is = also BundlesFull is
  update_refused A B OutOfMemory plain is = absurd (plain refl)
