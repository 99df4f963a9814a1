-- The refusals of commands, in their order. Which come, their order and the limits are our own; the section stands where the standard has one.
use Rattle.std.specs.Prelude.{ℕ, List, [], ◌∷◌, ◌==◌, ◌&&◌, ◌||◌, ◌++◌, map, Bool, false, not, nat_le, nat_lt, length, filter, find, is_none, is_some, Option, Some, None, option_map, option_and_then, if◌then◌else◌}
use Rattle.std.specs.List.{list_any}
use Rattle.std.specs.Option.{option_map_or}
use Rattle.std.specs.Str.{bytes_eq}
use Rattle.bundle_doc.specs.declared.document.BundleDoc.{BundleDoc}
use Rattle.bundle_life.specs.declared.bundle.BundleLife.{BundleLife}
use Rattle.bundle_life.specs.Lives.{bundle_at, bundle_of, state_number, is_active, is_stopping, namesake}
use Rattle.callback_orders.specs.declared.callback.Outcome.{Outcome}
use Rattle.callback_orders.specs.declared.callback.Outcome.TheVariants.{Done, Refused, NoMemory}
use Rattle.component_dto.specs.declared.description.Description.{Description}
use Rattle.config_admin.specs.Configurations.{factory_pid, of_factory, of_pid}
use Rattle.config_admin.specs.Refusals.{is_full, is_pid}
use Rattle.prop_map.specs.Words.{first_some, is_empty}
use Rattle.service_listeners.specs.Listening.{listener_of}
use Rattle.service_registry.specs.declared.row.ServiceRow.{ServiceRow}
use Rattle.service_registry.specs.Registries.{row_of}
use Rattle.use_counts.specs.declared.uses.Holder.TheVariants.{Shell}
use Rattle.use_counts.specs.Uses.{holder_count}
use Rattle.scr_world.specs.declared.command.Command.{Command}
use Rattle.scr_world.specs.declared.command.Command.TheVariants.{Install, Update, Start, Stop, Uninstall, Enable, Disable, Register, Unregister, SetProperties, Get, Unget, Listen, Unlisten, Configure, ConfigureFactory, Unconfigure}
use Rattle.scr_world.specs.declared.step.Step.TheVariants.{Command as Commanded}
use Rattle.scr_world.specs.declared.reply.CoreFault.{CoreFault}
use Rattle.scr_world.specs.declared.reply.CoreFault.TheVariants.{NoBundle, NoComponent, WrongState, Stopping, SameName, Cycle, BundlesFull, ComponentsFull, ServicesFull, ConfigurationsFull, ListenersFull, NoService, NotOwner, NotUsing, NoListener, NoConfiguration, BadPid, FactoryClash, ActivationFailed, ActivationNoMemory}
use Rattle.scr_world.specs.declared.contents.Contents.{Contents}
use Rattle.scr_world.specs.declared.instance.Instance.{Instance}
use Rattle.scr_world.specs.declared.marks.Failure.{Failure}
use Rattle.scr_world.specs.Consequences.{keeps_bundle}
use Rattle.scr_world.specs.Levels.{has_levels}
use Rattle.scr_world.specs.Stepping.{components_added_by, components_by, is_counted}
use Rattle.scr_world.specs.Tables.{contents_of, descriptions_of, replaced}
use Rattle.scr_world.specs.declared.world.World.{World}
use Rattle.scr_world.specs.Worlds.{is_registered}

abbrev pub refuse_if : Bool → CoreFault → Option CoreFault
refuse_if b fault = if b then Some fault else None

-- ---- bundles (OSGi Core 8, chapter 4, "Installing Bundles", "Starting Bundles", "Updating Bundles", "Uninstalling Bundles")

abbrev pub no_bundle : World → ℕ → Option CoreFault
no_bundle w bundle = refuse_if (is_none (bundle_of w.bundles.rows bundle)) (NoBundle bundle)

-- a test of a bundle that is there
abbrev pub of_known_bundle : World → ℕ → (BundleLife → Option CoreFault) → Option CoreFault
of_known_bundle w bundle test = option_and_then test (bundle_of w.bundles.rows bundle)

abbrev pub not_active : World → ℕ → Option CoreFault
not_active w bundle = of_known_bundle w bundle (λ (b : BundleLife). refuse_if (not (is_active b.state)) (WrongState (state_number b.state)))

abbrev pub still_active : World → ℕ → Option CoreFault
still_active w bundle = of_known_bundle w bundle (λ (b : BundleLife). refuse_if (is_active b.state) (WrongState 32))

-- the lowest instance that keeps a bundle from having stopped
abbrev pub lowest_keeping : World → ℕ → ℕ
lowest_keeping w bundle = option_map_or (λ (i : Instance). i.number) (find (keeps_bundle w.components bundle) w.instances) 0

-- a stopping bundle: that instance is told
abbrev pub still_stopping : World → ℕ → Option CoreFault
still_stopping w bundle = of_known_bundle w bundle (λ (b : BundleLife). refuse_if (is_stopping b.state) (Stopping (lowest_keeping w bundle)))

-- another bundle has the name and version of a document
abbrev pub same_name : World → BundleDoc → ℕ → Option CoreFault
same_name w doc but = option_map (λ (b : BundleLife). SameName b.number) (namesake doc.name doc.version but w.bundles.rows)

-- with a document in place of one bundle's, or behind all
abbrev pub descriptions_with : World → BundleDoc → ℕ → List Description
descriptions_with w doc bundle = descriptions_of (map (replaced bundle doc) w.documents)

-- some description would have no level; the cycle is told without its path here
abbrev pub cyclic : List Description → Option CoreFault
cyclic ds = refuse_if (not (has_levels ds)) (Cycle [])

abbrev pub no_component : World → ℕ → List ℕ → Option CoreFault
no_component w bundle name = refuse_if (not (option_map_or (λ (c : Contents). list_any (λ (d : Description). bytes_eq d.name name) c.document.descriptions) (contents_of w.documents bundle) false)) (NoComponent name)

-- a command would make component configurations come, and there would be more than 512
abbrev pub components_full : World → Command → Option CoreFault
components_full w command =
    refuse_if (not (components_added_by (Commanded command) w == 0) && nat_lt 512 (length (filter (is_counted w.instances) (components_by (Commanded command) w)))) ComponentsFull

-- ---- services (OSGi Core 8, chapter 5, "Getting Services", "Releasing Services", "Unregistering Services")

abbrev pub no_direct : World → ℕ → Option CoreFault
no_direct w service = refuse_if (is_none (row_of w.registry.rows service)) (NoService service)

abbrev pub not_owner : World → ℕ → ℕ → Option CoreFault
not_owner w bundle service = option_and_then (λ (r : ServiceRow). refuse_if (not (r.bundle == bundle)) (NotOwner r.bundle)) (row_of w.registry.rows service)

-- the service 0 counts as one that isn't there
abbrev pub no_service : World → ℕ → Option CoreFault
no_service w service = refuse_if ((service == 0) || not (is_registered w service)) (NoService service)

-- a service that left with a creation or activation that failed
abbrev pub failure_fault : Failure → Outcome → Option CoreFault
failure_fault f Done = None
failure_fault f Refused = Some (ActivationFailed f.instance)
failure_fault f NoMemory = Some (ActivationNoMemory f.instance)

abbrev pub activation_failed : World → ℕ → Option CoreFault
activation_failed w service = if service == 0 then None else option_and_then (λ (f : Failure). failure_fault f f.outcome) (find (λ (f : Failure). f.service == service) w.failures)

-- ---- configurations (OSGi Compendium 8, chapter 104, "The Persistent Identity")

abbrev pub bad_pid : List ℕ → Option CoreFault
bad_pid pid = refuse_if (not (is_pid pid)) BadPid

abbrev pub configurations_full : World → List ℕ → Option CoreFault
configurations_full w pid = refuse_if (is_full pid w.configurations) ConfigurationsFull

-- ---- all of them, but that for want of room

abbrev pub refusals : World → Command → List (Option CoreFault)
refusals w (Install doc) =
    if is_some (bundle_at w.bundles.rows doc.location) then []
    else same_name w doc 0 ∷ cyclic (descriptions_of w.documents ++ doc.descriptions) ∷ refuse_if (nat_le 128 (length w.bundles.rows)) BundlesFull ∷ []
refusals w (Update bundle doc) = no_bundle w bundle ∷ still_active w bundle ∷ still_stopping w bundle ∷ same_name w doc bundle ∷ cyclic (descriptions_with w doc bundle) ∷ []
refusals w (Start bundle) = no_bundle w bundle ∷ of_known_bundle w bundle (λ (b : BundleLife). if is_active b.state then None else first_some (still_stopping w bundle ∷ components_full w (Start bundle) ∷ [])) ∷ []
refusals w (Stop bundle) = no_bundle w bundle ∷ []
refusals w (Uninstall bundle) = no_bundle w bundle ∷ still_active w bundle ∷ still_stopping w bundle ∷ []
refusals w (Enable bundle name) = no_bundle w bundle ∷ not_active w bundle ∷ no_component w bundle name ∷ components_full w (Enable bundle name) ∷ []
refusals w (Disable bundle name) = no_bundle w bundle ∷ not_active w bundle ∷ no_component w bundle name ∷ []
refusals w (Register bundle interfaces properties) = no_bundle w bundle ∷ not_active w bundle ∷ refuse_if (nat_le 1024 (length w.registry.rows)) ServicesFull ∷ []
refusals w (Unregister bundle service) = no_direct w service ∷ not_owner w bundle service ∷ []
refusals w (SetProperties bundle service properties) = no_direct w service ∷ not_owner w bundle service ∷ []
refusals w (Get bundle service) = no_bundle w bundle ∷ not_active w bundle ∷ activation_failed w service ∷ no_service w service ∷ []
refusals w (Unget bundle service) = no_bundle w bundle ∷ no_service w service ∷ refuse_if (holder_count Shell bundle service w.uses == 0) NotUsing ∷ []
refusals w (Listen bundle filter) = no_bundle w bundle ∷ not_active w bundle ∷ refuse_if (nat_le 64 (length w.listeners.rows)) ListenersFull ∷ []
refusals w (Unlisten listener) = refuse_if (is_none (listener_of w.listeners.rows listener)) (NoListener listener) ∷ []
refusals w (Configure pid properties) =
    bad_pid pid ∷ refuse_if (not (is_empty (of_factory pid w.configurations))) FactoryClash ∷ configurations_full w pid ∷ components_full w (Configure pid properties) ∷ []
refusals w (ConfigureFactory factory name properties) =
    bad_pid factory ∷ bad_pid name ∷ refuse_if (is_some (of_pid factory w.configurations)) FactoryClash
    ∷ configurations_full w (factory_pid factory name) ∷ components_full w (ConfigureFactory factory name properties) ∷ []
refusals w (Unconfigure pid) = refuse_if (is_none (of_pid pid w.configurations)) NoConfiguration ∷ components_full w (Unconfigure pid) ∷ []

-- why a command is refused, but for want of room
abbrev pub refusal : World → Command → Option CoreFault
refusal w command = first_some (refusals w command)
