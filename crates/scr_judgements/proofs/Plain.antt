-- No command but an install or an update is refused for a cycle.
use Rattle.std.proofs.Common.{◌≡◌, ◌∙◌, ℕ, List, [], ◌∷◌, ap, cond, refl, sym, Bool, true, false, Option, Some, None, Err}
use Rattle.std.specs.Prelude.{◌==◌, ⊤, find, not, option_and_then}
use Rattle.std.specs.Option.{option_map_or}
use Rattle.bundle_life.specs.declared.bundle.BundleLife.{BundleLife}
use Rattle.bundle_life.specs.Lives.{bundle_of, is_active, is_stopping, state_number}
use Rattle.callback_orders.specs.declared.callback.Outcome.{Outcome}
use Rattle.callback_orders.specs.declared.callback.Outcome.TheVariants.{Done, Refused, NoMemory}
use Rattle.prop_map.specs.Words.{first_some}
use Rattle.service_registry.specs.declared.row.ServiceRow.{ServiceRow}
use Rattle.service_registry.specs.Registries.{row_of}
use Rattle.scr_judgements.specs.Judgements.{Judges}
use Rattle.scr_judgements.proofs.Judged.{is_cycle, refused}
use Rattle.scr_state.specs.declared.state.State.{State}
use Rattle.scr_world.specs.Refusals.{activation_failed, components_full, failure_fault, lowest_keeping, not_active, not_owner, of_known_bundle, refusal, refusals, refuse_if, still_active, still_stopping}
use Rattle.scr_world.specs.declared.command.Command.{Command}
use Rattle.scr_world.specs.declared.command.Command.TheVariants.{Install, Update, Start, Stop, Uninstall, Enable, Disable, Register, Unregister, SetProperties, Get, Unget, Listen, Unlisten, Configure, ConfigureFactory, Unconfigure}
use Rattle.scr_world.specs.declared.marks.Failure.{Failure}
use Rattle.scr_world.specs.declared.reply.CoreFault.{CoreFault}
use Rattle.scr_world.specs.declared.reply.CoreFault.TheVariants.{BadPid, ComponentsFull, ConfigurationsFull, FactoryClash, ListenersFull, NoBundle, NoComponent, NoConfiguration, NoListener, NoService, NotOwner, NotUsing, ServicesFull, Stopping, WrongState}
use Rattle.scr_world.specs.declared.world.World.{World}

-- ---- no cycle among refusals

abbrev IsPlain : Option CoreFault → Type 0
IsPlain o = option_map_or is_cycle o false ≡ false

abbrev ArePlain : List (Option CoreFault) → Type 0
ArePlain [] = ⊤
ArePlain (o ∷ os) = IsPlain o × ArePlain os

first_plain : (os : List (Option CoreFault)) → ArePlain os → IsPlain (first_some os)
first_plain [] plain = refl
first_plain (Some fault ∷ os) plain = plain.0
first_plain (None ∷ os) plain = first_plain os plain.1

plain_if : (b : Bool) (fault : CoreFault) → is_cycle fault ≡ false → IsPlain (refuse_if b fault)
plain_if true fault plain = plain
plain_if false fault plain = refl

plain_then : {X : Type 0} (test : X → Option CoreFault) (o : Option X) → ((x : X) → IsPlain (test x)) → IsPlain (option_and_then test o)
plain_then test None each = refl
plain_then test (Some x) each = each x

-- ---- each of them

module _ (w : World) (bundle : ℕ) where
  inactive : IsPlain (not_active w bundle)
  inactive = plain_then (λ (b : BundleLife). refuse_if (not (is_active b.state)) (WrongState (state_number b.state))) (bundle_of w.bundles.rows bundle) (λ b. plain_if (not (is_active b.state)) (WrongState (state_number b.state)) refl)

  active : IsPlain (still_active w bundle)
  active = plain_then (λ (b : BundleLife). refuse_if (is_active b.state) (WrongState 32)) (bundle_of w.bundles.rows bundle) (λ b. plain_if (is_active b.state) (WrongState 32) refl)

  stopping : IsPlain (still_stopping w bundle)
  stopping = plain_then (λ (b : BundleLife). refuse_if (is_stopping b.state) (Stopping (lowest_keeping w bundle))) (bundle_of w.bundles.rows bundle) (λ b. plain_if (is_stopping b.state) (Stopping (lowest_keeping w bundle)) refl)

  foreign : (service : ℕ) → IsPlain (not_owner w bundle service)
  foreign service = plain_then (λ (r : ServiceRow). refuse_if (not (r.bundle == bundle)) (NotOwner r.bundle)) (row_of w.registry.rows service) (λ r. plain_if (not (r.bundle == bundle)) (NotOwner r.bundle) refl)

failure_plain : (f : Failure) (outcome : Outcome) → IsPlain (failure_fault f outcome)
failure_plain f Done = refl
failure_plain f Refused = refl
failure_plain f NoMemory = refl

failed_plain : (w : World) (service : ℕ) → IsPlain (activation_failed w service)
failed_plain w service = go (service == 0)
  where
    go : (b : Bool) → IsPlain (cond b None (option_and_then (λ (f : Failure). failure_fault f f.outcome) (find (λ (f : Failure). f.service == service) w.failures)))
    go true = refl
    go false = plain_then (λ (f : Failure). failure_fault f f.outcome) (find (λ (f : Failure). f.service == service) w.failures) (λ f. failure_plain f f.outcome)

-- the start of a bundle that isn't ACTIVE yet
starting : (w : World) (bundle : ℕ) → IsPlain (of_known_bundle w bundle (λ (b : BundleLife). cond (is_active b.state) None (first_some (still_stopping w bundle ∷ components_full w (Start bundle) ∷ []))))
starting w bundle = plain_then (λ (b : BundleLife). cond (is_active b.state) None (first_some (still_stopping w bundle ∷ components_full w (Start bundle) ∷ []))) (bundle_of w.bundles.rows bundle) (λ b. go (is_active b.state))
  where
    go : (on : Bool) → IsPlain (cond on None (first_some (still_stopping w bundle ∷ components_full w (Start bundle) ∷ [])))
    go true = refl
    go false = first_plain (still_stopping w bundle ∷ components_full w (Start bundle) ∷ []) (stopping w bundle, (plain_if _ ComponentsFull refl, tt))

-- ---- all of them

-- the command brings a document
abbrev pub brings_document : Command → Bool
brings_document (Install doc) = true
brings_document (Update bundle doc) = true
brings_document _ = false

are_plain : (w : World) (command : Command) → brings_document command ≡ false → ArePlain (refusals w command)
are_plain w (Install doc) is = absurd cc
are_plain w (Update bundle doc) is = absurd cc
are_plain w (Start bundle) is = (plain_if _ (NoBundle bundle) refl, (starting w bundle, tt))
are_plain w (Stop bundle) is = (plain_if _ (NoBundle bundle) refl, tt)
are_plain w (Uninstall bundle) is = (plain_if _ (NoBundle bundle) refl, (active w bundle, (stopping w bundle, tt)))
are_plain w (Enable bundle name) is = (plain_if _ (NoBundle bundle) refl, (inactive w bundle, (plain_if _ (NoComponent name) refl, (plain_if _ ComponentsFull refl, tt))))
are_plain w (Disable bundle name) is = (plain_if _ (NoBundle bundle) refl, (inactive w bundle, (plain_if _ (NoComponent name) refl, tt)))
are_plain w (Register bundle interfaces properties) is = (plain_if _ (NoBundle bundle) refl, (inactive w bundle, (plain_if _ ServicesFull refl, tt)))
are_plain w (Unregister bundle service) is = (plain_if _ (NoService service) refl, (foreign w bundle service, tt))
are_plain w (SetProperties bundle service properties) is = (plain_if _ (NoService service) refl, (foreign w bundle service, tt))
are_plain w (Get bundle service) is = (plain_if _ (NoBundle bundle) refl, (inactive w bundle, (failed_plain w service, (plain_if _ (NoService service) refl, tt))))
are_plain w (Unget bundle service) is = (plain_if _ (NoBundle bundle) refl, (plain_if _ (NoService service) refl, (plain_if _ NotUsing refl, tt)))
are_plain w (Listen bundle filter) is = (plain_if _ (NoBundle bundle) refl, (inactive w bundle, (plain_if _ ListenersFull refl, tt)))
are_plain w (Unlisten listener) is = (plain_if _ (NoListener listener) refl, tt)
are_plain w (Configure pid properties) is = (plain_if _ BadPid refl, (plain_if _ FactoryClash refl, (plain_if _ ConfigurationsFull refl, (plain_if _ ComponentsFull refl, tt))))
are_plain w (ConfigureFactory factory name properties) is =
    (plain_if _ BadPid refl, (plain_if _ BadPid refl, (plain_if _ FactoryClash refl, (plain_if _ ConfigurationsFull refl, (plain_if _ ComponentsFull refl, tt)))))
are_plain w (Unconfigure pid) is = (plain_if _ NoConfiguration refl, (plain_if _ ComponentsFull refl, tt))

pub never_cyclic : (w : World) (command : Command) → brings_document command ≡ false → (fault : CoreFault) → refusal w command ≡ Some fault → is_cycle fault ≡ false
never_cyclic w command is fault e = ap (λ (o : Option CoreFault). option_map_or is_cycle o false) (sym e) ∙ first_plain (refusals w command) (are_plain w command is)

-- so any of its refusals is right
pub refused_plainly : (limit : ℕ) (s : State) (command : Command) → brings_document command ≡ false → (fault : CoreFault) → refusal s.world command ≡ Some fault → Judges limit s command (Err fault)
refused_plainly limit s command is fault e = refused limit s command fault (never_cyclic s.world command is fault e) e
