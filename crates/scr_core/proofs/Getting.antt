-- A get by token, and why it is refused.
use Rattle.std.proofs.Common.{◌≡◌, ◌≢◌, ℕ, ◌∙◌, List, [], ◌∷◌, ap, refl, sym, subst, Bool, true, false, Option, None, Some, Err, cond}
use Rattle.std.specs.Prelude.{find, is_none, not, option_and_then, ◌==◌}
use Rattle.std.specs.Option.{unwrap_or}
use Rattle.bundle_life.specs.declared.bundle.BundleLife.{BundleLife}
use Rattle.bundle_life.specs.Lives.{bundle_of, is_active, state_number}
use Rattle.callback_orders.specs.declared.callback.Outcome.{Outcome}
use Rattle.callback_orders.specs.declared.callback.Outcome.TheVariants.{Done, Refused, NoMemory}
use Rattle.journal_core.specs.Rooms.{JournalRows}
use Rattle.prop_map.specs.Words.{first_some}
use Rattle.scr_state.specs.Keeps.{Keeps}
use Rattle.scr_state.specs.declared.state.State.{State}
use Rattle.scr_world.specs.Calls.{Gets, world_at}
use Rattle.scr_world.specs.Legal.{MayCome}
use Rattle.scr_world.specs.Refusals.{activation_failed, failure_fault, no_bundle, no_service, not_active, refusal, refuse_if}
use Rattle.scr_world.specs.Room.{has_room, needed_by}
use Rattle.scr_world.specs.declared.command.Command.TheVariants.{Get}
use Rattle.scr_world.specs.declared.marks.Failure.{Failure}
use Rattle.scr_world.specs.declared.reply.CoreFault.{CoreFault}
use Rattle.scr_world.specs.declared.reply.CoreFault.TheVariants.{NoBundle, NoComponent, WrongState, Stopping, SameName, Cycle, BundlesFull, ComponentsFull, ServicesFull, ConfigurationsFull, ListenersFull, NoService, NotOwner, NotUsing, NoListener, NoConfiguration, BadPid, FactoryClash, ActivationFailed, ActivationNoMemory, JournalFull, OutOfMemory}
use Rattle.scr_world.specs.declared.step.Step.{Step}
use Rattle.scr_world.specs.declared.step.Step.TheVariants.{Got}
use Rattle.scr_world.specs.declared.world.World.{World}

-- ---- no refusal of a get is one for want of room or of memory

abbrev is_room : CoreFault → Bool
is_room JournalFull = true
is_room OutOfMemory = true
is_room _ = false

abbrev NoRoom : Option CoreFault → Type 0
NoRoom None = Unit {0}
NoRoom (Some fault) = is_room fault ≡ false

plainly : (b : Bool) (fault : CoreFault) → is_room fault ≡ false → NoRoom (refuse_if b fault)
plainly true fault plain = plain
plainly false fault plain = tt

of_known : {X : Type 0} (test : X → Option CoreFault) → ((x : X) → NoRoom (test x)) → (o : Option X) → NoRoom (option_and_then test o)
of_known test each None = tt
of_known test each (Some x) = each x

of_failure : (f : Failure) (outcome : Outcome) → NoRoom (failure_fault f outcome)
of_failure f Done = tt
of_failure f Refused = refl
of_failure f NoMemory = refl

of_failed : (w : World) (service : ℕ) (b : Bool) → NoRoom (cond b None (option_and_then (λ (f : Failure). failure_fault f f.outcome) (find (λ (f : Failure). f.service == service) w.failures)))
of_failed w service true = tt
of_failed w service false = of_known (λ (f : Failure). failure_fault f f.outcome) (λ f. of_failure f f.outcome) (find (λ (f : Failure). f.service == service) w.failures)

first_of : (o : Option CoreFault) (os : List (Option CoreFault)) → NoRoom o → NoRoom (first_some os) → NoRoom (first_some (o ∷ os))
first_of None os one rest = rest
first_of (Some fault) os one rest = one

no_room_fault : (w : World) (bundle service : ℕ) → NoRoom (refusal w (Get bundle service))
no_room_fault w bundle service =
    first_of (no_bundle w bundle) (not_active w bundle ∷ activation_failed w service ∷ no_service w service ∷ []) (plainly (is_none (bundle_of w.bundles.rows bundle)) (NoBundle bundle) refl)
    (first_of (not_active w bundle) (activation_failed w service ∷ no_service w service ∷ [])
    (of_known (λ (b : BundleLife). refuse_if (not (is_active b.state)) (WrongState (state_number b.state))) (λ b. plainly (not (is_active b.state)) (WrongState (state_number b.state)) refl) (bundle_of w.bundles.rows bundle))
    (first_of (activation_failed w service) (no_service w service ∷ []) (of_failed w service (service == 0))
    (first_of (no_service w service) [] (plainly _ (NoService service) refl) tt)))

-- ---- what a get answers

module _ (j : JournalRows Step) (s : State) (keeps : Keeps j s) (bundle service : ℕ) where
  refused_by : (fault : CoreFault) → is_room fault ≡ false → refusal (world_at j.entries) (Get bundle service) ≡ Some fault → Gets j.limit j.entries bundle service (Err fault) j.entries
  refused_by OutOfMemory plain is = cc
  refused_by JournalFull plain is = cc
  refused_by (NoBundle a) plain is = (is, refl)
  refused_by (NoComponent a) plain is = (is, refl)
  refused_by (WrongState a) plain is = (is, refl)
  refused_by (Stopping a) plain is = (is, refl)
  refused_by (SameName a) plain is = (is, refl)
  refused_by (Cycle a) plain is = (is, refl)
  refused_by BundlesFull plain is = (is, refl)
  refused_by ComponentsFull plain is = (is, refl)
  refused_by ServicesFull plain is = (is, refl)
  refused_by ConfigurationsFull plain is = (is, refl)
  refused_by ListenersFull plain is = (is, refl)
  refused_by (NoService a) plain is = (is, refl)
  refused_by (NotOwner a) plain is = (is, refl)
  refused_by NotUsing plain is = (is, refl)
  refused_by (NoListener a) plain is = (is, refl)
  refused_by NoConfiguration plain is = (is, refl)
  refused_by BadPid plain is = (is, refl)
  refused_by FactoryClash plain is = (is, refl)
  refused_by (ActivationFailed a) plain is = (is, refl)
  refused_by (ActivationNoMemory a) plain is = (is, refl)

  told_by : (fault : CoreFault) → is_room fault ≡ false → Some fault ≢ Some OutOfMemory
  told_by fault plain same =
      let none : is_room OutOfMemory ≡ true = refl in
      cc

  refusal_at : refusal s.world (Get bundle service) ≡ refusal (world_at j.entries) (Get bundle service)
  refusal_at = ap (λ (w : World). refusal w (Get bundle service)) keeps.world

  pub get_refused : (fault : CoreFault) → Some fault ≡ refusal s.world (Get bundle service) → Gets j.limit j.entries bundle service (Err fault) j.entries
  get_refused fault is = refused_by fault (subst NoRoom (sym is) (no_room_fault s.world bundle service)) (sym (is ∙ refusal_at))

  pub get_told : (fault : CoreFault) → Some fault ≡ refusal s.world (Get bundle service) → Some fault ≢ Some OutOfMemory
  get_told fault is = told_by fault (subst NoRoom (sym is) (no_room_fault s.world bundle service))

  pub get_full : None ≡ refusal s.world (Get bundle service) → has_room j.limit s.world 2 ≡ false → Gets j.limit j.entries bundle service (Err JournalFull) j.entries
  get_full free full = (sym (free ∙ refusal_at), subst (λ (w : World). has_room j.limit w 2 ≡ false) keeps.world full, refl)

  pub get_lacks : None ≡ refusal s.world (Get bundle service) → has_room j.limit s.world 2 ≡ true → Gets j.limit j.entries bundle service (Err OutOfMemory) j.entries
  get_lacks free room = (sym (free ∙ refusal_at), subst (λ (w : World). has_room j.limit w 2 ≡ true) keeps.world room, refl)

  -- where no refusal is told, want of memory may come
  pub get_unrefused : (told : Option CoreFault) → told ≡ None → Gets j.limit j.entries bundle service (Err (unwrap_or told OutOfMemory)) j.entries → Gets j.limit j.entries bundle service (Err OutOfMemory) j.entries
  get_unrefused told none it = subst (λ (o : Option CoreFault). Gets j.limit j.entries bundle service (Err (unwrap_or o OutOfMemory)) j.entries) none it

  -- where want of memory may come, so may the get
  pub get_may : Gets j.limit j.entries bundle service (Err OutOfMemory) j.entries → (step : Step) → step ≡ Got bundle service → MayCome s.world step
  get_may free step is = subst (λ (x : Step). MayCome s.world x) (sym is) (refusal_at ∙ free.0)

  pub get_room : Gets j.limit j.entries bundle service (Err OutOfMemory) j.entries → (step : Step) → step ≡ Got bundle service → has_room j.limit s.world (needed_by step) ≡ true
  get_room free step is =
      ap (λ (x : Step). has_room j.limit s.world (needed_by x)) is
      ∙ subst (λ (w : World). has_room j.limit w 2 ≡ true) (sym keeps.world) free.1
