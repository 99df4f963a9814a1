-- What the world doesn't refuse the table of bundles doesn't.
use Rattle.std.proofs.Common.{List, ◌≡◌, ◌∷◌, [], ℕ, Bool, true, false, Option, Some, None, cond, length, refl}
use Rattle.std.specs.Prelude.{◌++◌, is_none, is_some, nat_le, option_and_then, option_map}
use Rattle.bundle_life.specs.declared.bundle.BundleLife.{BundleLife}
use Rattle.bundle_life.specs.declared.bundle.BundleState.{BundleState}
use Rattle.bundle_life.specs.declared.bundle.BundleState.TheVariants.{Installed, Resolved, Stopping, Active}
use Rattle.bundle_life.specs.declared.life_fault.LifeFault.{LifeFault}
use Rattle.bundle_life.specs.declared.life_fault.LifeFault.TheVariants.{NoBundle as NoRow, WrongState as WrongRow, StillStopping, SameName as SameRow, BundlesFull as RowsFull}
use Rattle.bundle_life.specs.Lives.{bundle_at, bundle_of, is_active, is_stopping, namesake, state_is, state_number}
use Rattle.bundle_life.specs.Refusals.{refuse_if as refuse_row}
use Rattle.component_state.proofs.Apart.{not_true}
use Rattle.prop_map.specs.Words.{first_some}
use Rattle.scr_bundles.specs.Changes.{MayChange, TakesStep}
use Rattle.scr_laws.proofs.Histories.{legal_is_asked}
use Rattle.scr_world.specs.Legal.{IsLegal, MayCome}
use Rattle.scr_world.specs.Lists.{world_of}
use Rattle.scr_world.specs.Refusals.{components_full, cyclic, descriptions_with, lowest_keeping, refuse_if}
use Rattle.scr_world.specs.Steps.{History}
use Rattle.scr_world.specs.Tables.{descriptions_of}
use Rattle.scr_world.specs.declared.command.Command.TheVariants.{Install, Update, Start, Stop, Uninstall, Enable, Disable, Register, Unregister, SetProperties, Get, Unget, Listen, Unlisten, Configure, ConfigureFactory, Unconfigure}
use Rattle.scr_world.specs.declared.reply.CoreFault.{CoreFault}
use Rattle.scr_world.specs.declared.reply.CoreFault.TheVariants.{NoBundle, WrongState, Stopping as StillStops, SameName, BundlesFull}
use Rattle.scr_world.specs.declared.step.Step.{Step}
use Rattle.scr_world.specs.declared.step.Step.TheVariants.{Command as Commanded, Begin, End, Drained, Got, Released}
use Rattle.scr_world.specs.declared.world.World.{World}

-- ---- what the world and the table refuse, of the bundle of a number and of one that has the same name

none_there : (o : Option BundleLife) → is_none o ≡ true → o ≡ None
none_there None is = refl
none_there (Some b) is = absurd cc

abbrev no_bundle : Option BundleLife → ℕ → Option CoreFault
no_bundle o n = refuse_if (is_none o) (NoBundle n)

abbrev still_active : Option BundleLife → Option CoreFault
still_active o = option_and_then (λ (b : BundleLife). refuse_if (is_active b.state) (WrongState 32)) o

abbrev still_stopping : Option BundleLife → ℕ → Option CoreFault
still_stopping o low = option_and_then (λ (b : BundleLife). refuse_if (is_stopping b.state) (StillStops low)) o

abbrev same_name : Option BundleLife → Option CoreFault
same_name a = option_map (λ (b : BundleLife). SameName b.number) a

abbrev no_row : Option BundleLife → ℕ → Option LifeFault
no_row o n = refuse_row (is_none o) (NoRow n)

abbrev row_active : Option BundleLife → Option LifeFault
row_active o = option_and_then (λ (b : BundleLife). refuse_row (is_active b.state) (WrongRow (state_number b.state))) o

abbrev row_stopping : Option BundleLife → Option LifeFault
row_stopping o = option_and_then (λ (b : BundleLife). refuse_row (is_stopping b.state) StillStopping) o

abbrev same_row : Option BundleLife → Option LifeFault
same_row a = option_map (λ (b : BundleLife). SameRow b.number) a

-- ---- each command

install_free : (o a : Option BundleLife) (full : Bool) (cycle : Option CoreFault) → is_none o ≡ true
    → first_some (cond (is_some o) [] (same_name a ∷ cycle ∷ refuse_if full BundlesFull ∷ [])) ≡ None
    → cond (is_none o) (first_some (same_row a ∷ refuse_row full RowsFull ∷ [])) None ≡ None
install_free (Some b) a full cycle new free = absurd cc
install_free None (Some b) full cycle new free = absurd cc
install_free None None true (Some fault) new free = absurd cc
install_free None None true None new free = absurd cc
install_free None None false cycle new free = refl

idle_state : (s : BundleState) (low : ℕ) (rest : List (Option CoreFault)) (rows : List (Option LifeFault))
    → (first_some rest ≡ None → first_some rows ≡ None)
    → first_some (refuse_if (is_active s) (WrongState 32) ∷ refuse_if (is_stopping s) (StillStops low) ∷ rest) ≡ None
    → first_some (refuse_row (is_active s) (WrongRow (state_number s)) ∷ refuse_row (is_stopping s) StillStopping ∷ rows) ≡ None
idle_state Installed low rest rows then free = then free
idle_state Resolved low rest rows then free = then free
idle_state Stopping low rest rows then free = absurd cc
idle_state Active low rest rows then free = absurd cc

idle : (o : Option BundleLife) (n low : ℕ) (rest : List (Option CoreFault)) (rows : List (Option LifeFault))
    → (first_some rest ≡ None → first_some rows ≡ None)
    → first_some (no_bundle o n ∷ still_active o ∷ still_stopping o low ∷ rest) ≡ None
    → first_some (no_row o n ∷ row_active o ∷ row_stopping o ∷ rows) ≡ None
idle None n low rest rows then free = absurd cc
idle (Some b) n low rest rows then free = idle_state b.state low rest rows then free

named_free : (a : Option BundleLife) (cycle : Option CoreFault)
    → first_some (same_name a ∷ cycle ∷ []) ≡ None → first_some (same_row a ∷ []) ≡ None
named_free (Some b) cycle free = absurd cc
named_free None cycle free = refl

start_state : (s : BundleState) (low : ℕ) (full : Option CoreFault)
    → first_some (cond (is_active s) None (first_some (refuse_if (is_stopping s) (StillStops low) ∷ full ∷ [])) ∷ []) ≡ None
    → first_some (refuse_row (is_stopping s) StillStopping ∷ []) ≡ None
start_state Installed low full free = refl
start_state Resolved low full free = refl
start_state Stopping low full free = absurd cc
start_state Active low full free = refl

start_free : (o : Option BundleLife) (n low : ℕ) (full : Option CoreFault)
    → first_some (no_bundle o n
    ∷ option_and_then (λ (b : BundleLife). cond (is_active b.state) None (first_some (still_stopping o low ∷ full ∷ []))) o ∷ []) ≡ None
    → first_some (no_row o n ∷ row_stopping o ∷ []) ≡ None
start_free None n low full free = absurd cc
start_free (Some b) n low full free = start_state b.state low full free

stop_free : (o : Option BundleLife) (n : ℕ) → first_some (no_bundle o n ∷ []) ≡ None → no_row o n ≡ None
stop_free None n free = absurd cc
stop_free (Some b) n free = refl

takes : (w : World) (step : Step) → MayCome w step → TakesStep w.bundles step
takes w (Commanded (Install doc)) may =
    let rows = w.bundles.rows in
    let cycle = cyclic (descriptions_of w.documents ++ doc.descriptions) in (
      none_there (bundle_at rows doc.location) may.1,
      install_free (bundle_at rows doc.location) (namesake doc.name doc.version 0 rows) (nat_le 128 (length rows)) cycle may.1 may.0,
    )
takes w (Commanded (Update n doc)) may =
    let a = namesake doc.name doc.version n w.bundles.rows in
    let cycle = cyclic (descriptions_with w doc n) in
    idle (bundle_of w.bundles.rows n) n (lowest_keeping w n) (same_name a ∷ cycle ∷ []) (same_row a ∷ []) (named_free a cycle) may.0
takes w (Commanded (Start n)) may =
    let full = components_full w (Start n) in
    (not_true (state_is is_active w.bundles.rows n) may.1, start_free (bundle_of w.bundles.rows n) n (lowest_keeping w n) full may.0)
takes w (Commanded (Stop n)) may = (may.1, stop_free (bundle_of w.bundles.rows n) n may.0)
takes w (Commanded (Uninstall n)) may = idle (bundle_of w.bundles.rows n) n (lowest_keeping w n) [] [] (λ free. refl) may.0
takes w (Commanded (Enable bundle name)) may = tt
takes w (Commanded (Disable bundle name)) may = tt
takes w (Commanded (Register bundle interfaces properties)) may = tt
takes w (Commanded (Unregister bundle service)) may = tt
takes w (Commanded (SetProperties bundle service properties)) may = tt
takes w (Commanded (Get bundle service)) may = tt
takes w (Commanded (Unget bundle service)) may = tt
takes w (Commanded (Listen bundle filter)) may = tt
takes w (Commanded (Unlisten listener)) may = tt
takes w (Commanded (Configure pid properties)) may = tt
takes w (Commanded (ConfigureFactory factory name properties)) may = tt
takes w (Commanded (Unconfigure pid)) may = tt
takes w (Begin turn instance configuration consumer callback chosen) may = tt
takes w (End turn outcome) may = tt
takes w (Drained instance) may = tt
takes w (Got bundle service) may = tt
takes w (Released place) may = tt

pub step_may_change : (limit : ℕ) (past : History) → IsLegal limit past
    → (step : Step) → MayCome (world_of past) step → MayChange (world_of past).bundles step
step_may_change limit past legal step may = record {
  apart = (legal_is_asked limit past legal).apart.one_bundle;
  takes = takes (world_of past) step may;
}
