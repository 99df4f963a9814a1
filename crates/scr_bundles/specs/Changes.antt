-- When a step may change the table of bundles in its place, and what undoes it. Our own.
use Rattle.std.specs.Prelude.{◌≡◌, ◌+◌, ◌++◌, ◌≤◌, List, Option, Some, None, true, false, length, ⊤}
use Rattle.std.specs.List.{count_by}
use Rattle.bundle_life.specs.declared.bundle.BundleEvent.{BundleEvent}
use Rattle.bundle_life.specs.declared.bundle.BundleLife.{BundleLife}
use Rattle.bundle_life.specs.Lives.{BundleTable, bundle_at, is_active, state_is}
use Rattle.bundle_life.specs.Numbers.{SavedBundles, saved_of, stops}
use Rattle.bundle_life.specs.Refusals.{install_refusal, start_refusal, stop_refusal, uninstall_refusal, update_refusal}
use Rattle.scr_laws.specs.Askeds.{HasOneOfEach}
use Rattle.scr_world.specs.declared.command.Command.{Command}
use Rattle.scr_world.specs.declared.command.Command.TheVariants.{Install, Update, Start, Stop, Uninstall}
use Rattle.scr_world.specs.declared.step.Step.{Step}
use Rattle.scr_world.specs.declared.step.Step.TheVariants.{Command as Commanded}

-- the table doesn't refuse a command, and the command changes something: the location of an install is new, a bundle that is started isn't ACTIVE,
-- one that is stopped is
abbrev pub TakesCommand : BundleTable → Command → Type 0
TakesCommand t (Install doc) = (bundle_at t.rows doc.location ≡ None) × (install_refusal doc.location doc.name doc.version t ≡ None)
TakesCommand t (Update bundle doc) = update_refusal bundle doc.name doc.version t ≡ None
TakesCommand t (Start bundle) = (state_is is_active t.rows bundle ≡ false) × (start_refusal bundle t ≡ None)
TakesCommand t (Stop bundle) = (state_is is_active t.rows bundle ≡ true) × (stop_refusal bundle t ≡ None)
TakesCommand t (Uninstall bundle) = uninstall_refusal bundle t ≡ None
TakesCommand t _ = ⊤

abbrev pub TakesStep : BundleTable → Step → Type 0
TakesStep t (Commanded command) = TakesCommand t command
TakesStep t _ = ⊤

-- a step may change the table: no two bundles have one number, and the table takes it
pub record MayChange (t : BundleTable) (step : Step) : Type 0 where
  pub apart : HasOneOfEach (λ (b : BundleLife). b.number) t.rows
  pub takes : TakesStep t step

-- a table was saved before it became what it is now: it has only gained events since, and has room for those that were owed
pub record WasSaved (before now : BundleTable) (saved : SavedBundles) : Type 0 where
  pub is : saved ≡ saved_of before
  pub more : List BundleEvent
  pub events : now.events ≡ before.events ++ more
  pub room : length before.events + count_by stops before.rows ≤ length now.events + count_by stops now.rows

-- what undoes a change of the table; nothing where it is as it was
abbrev pub IsSavedOf : BundleTable → BundleTable → Option SavedBundles → Type 0
IsSavedOf before now (Some saved) = WasSaved before now saved
IsSavedOf before now None = now ≡ before

-- it is that of some table before
pub record HasBefore (now : BundleTable) (saved : Option SavedBundles) : Type 0 where
  pub before : BundleTable
  pub is : IsSavedOf before now saved
