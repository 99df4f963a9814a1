-- Refusals at 127 and 128 bundles, 1,023 and 1,024 services and configurations, 63 and 64 listeners, 512 and 513 component configurations, on made-up worlds; the ranges of a ranking.
use Rattle.std.specs.Prelude.{◌≡◌, refl, ℕ, List, [], ◌∷◌, codes, true, false, Some, None, Ok, Err, pos, negsuc}
use Rattle.prop_map.specs.declared.value.Value.TheVariants.{Text, Whole, Flag, Texts, Wholes, Flags}
use Rattle.prop_map.specs.declared.reference_words.Cardinality.TheVariants.{ZeroOrOne, One, ZeroOrMore, OneOrMore}
use Rattle.prop_map.specs.declared.reference_words.Policy.TheVariants.{Static, Dynamic}
use Rattle.prop_map.specs.declared.reference_words.PolicyOption.TheVariants.{Reluctant, Greedy}
use Rattle.component_dto.specs.declared.description.Scope.TheVariants.{Singleton, Bundle as InBundleScope, Prototype}
use Rattle.component_dto.specs.declared.description.ConfigurationPolicy.TheVariants.{Optional, Require, Ignore}
use Rattle.bundle_doc.specs.declared.document.BundleDoc.{BundleDoc}
use Rattle.bundle_life.specs.declared.bundle.BundleEvent.{BundleEvent}
use Rattle.journal_examples.proofs.Trees.{tree_or_none}
use Rattle.callback_orders.specs.declared.callback.Callback.TheVariants.{Create, Bind, Updated, Unbind, Activate, Modified, Deactivate, Destroy}
use Rattle.callback_orders.specs.declared.callback.Outcome.TheVariants.{Done, Refused, NoMemory}
use Rattle.service_listeners.specs.declared.listener.ServiceEvent.{ServiceEvent}
use Rattle.scr_world.specs.declared.step.Step.TheVariants.{Command as Commanded, Begin, End, Drained, Got, Released}
use Rattle.scr_world.specs.declared.command.Command.TheVariants.{Install, Update, Start, Stop, Uninstall, Enable, Disable, Register, Unregister, SetProperties, Get, Unget, Listen, Unlisten, Configure, ConfigureFactory, Unconfigure}
use Rattle.scr_world.specs.declared.reply.CoreFault.TheVariants.{NoBundle, NoComponent, WrongState, Stopping, SameName, Cycle, BundlesFull, ComponentsFull, ServicesFull, ConfigurationsFull, ListenersFull, NoService, NotOwner, NotUsing, NoListener, NoConfiguration, BadPid, FactoryClash, ActivationFailed, ActivationNoMemory, JournalFull}
use Rattle.scr_world.specs.declared.reply.Reply.TheVariants.{Done as IsDone, Bundle as InBundle, Service as AsService, Uses as WithUses, Listener as AsListener}
use Rattle.scr_world.specs.Steps.{History}
use Rattle.scr_world.specs.declared.world.World.{World}
use Rattle.journal_examples.proofs.Tests.{worlds, legal, begins, states, quiet_ones, right_ones, asked, replies, bundle_events_at_end, events_at_end, held_at_end, found_at_end, wanted_at, bound_at_end, calm_at_end}
use Rattle.scr_world.specs.Worlds.{satisfied_in}
use Rattle.scr_world.specs.Room.{has_room, needed_by}
use Rattle.scr_world.specs.Consequences.{stage_in, stage_of, stopped_in, stopped_by, shut_between}
use Rattle.scr_world.specs.Stepping.{world_after_step}
use Rattle.scr_world.specs.Lists.{world_after_entry, world_of}
use Rattle.journal_examples.proofs.Tests.{may_come, newest}
use Rattle.std.specs.Prelude.{map}
use Rattle.std.specs.Prelude.{zero, suc, Option}
use Rattle.ldap_filter.specs.Trees.{Present}
use Rattle.bundle_life.specs.declared.bundle.BundleLife.{BundleLife}
use Rattle.bundle_life.specs.declared.bundle.BundleState.TheVariants.{Active}
use Rattle.service_registry.specs.declared.row.ServiceRow.{ServiceRow}
use Rattle.service_listeners.specs.declared.listener.Listener.{Listener}
use Rattle.config_admin.specs.declared.configuration.Configuration.{Configuration}
use Rattle.scr_world.specs.Refusals.{refusal}
use Rattle.service_registry.specs.Services.{ranking}
use Rattle.prop_map.specs.declared.properties.Property.{Property}
use Rattle.bundle_life.specs.declared.bundle.BundleState.TheVariants.{Resolved}
use Rattle.component_dto.specs.declared.description.Description.{Description}
use Rattle.scr_world.specs.Worlds.{empty_world}
use Rattle.scr_world.specs.declared.reply.CoreFault.{CoreFault}

abbrev doc1 : BundleDoc
doc1 = record { location = (codes "d"); name = (codes "d"); version = record { major = 0; minor = 0; micro = 0; qualifier = [] }; manifest = None; activator = None; descriptions = [] }

abbrev bundles_of : ℕ → List BundleLife
bundles_of zero = []
bundles_of (suc n) = record { number = suc n; location = codes "x"; name = codes "x"; version = record { major = 0; minor = 0; micro = 0; qualifier = [] }; state = Active } ∷ bundles_of n

abbrev services_of : ℕ → List ServiceRow
services_of zero = []
services_of (suc n) = record { id = suc n; bundle = 1; interfaces = []; properties = []; revision = 0; direct = true } ∷ services_of n

abbrev listeners_of : ℕ → List Listener
listeners_of zero = []
listeners_of (suc n) = record { number = suc n; bundle = 1; filter = Present []; events = [] } ∷ listeners_of n

abbrev configurations_of : ℕ → List Configuration
configurations_of zero = []
configurations_of (suc n) = record { pid = (suc n) ∷ []; factory = None; properties = [] } ∷ configurations_of n

abbrev with_bundles : ℕ → World
with_bundles n = record empty_world { bundles = record { rows = bundles_of n; numbered = n; events = [] } }

b127 : refusal (with_bundles 127) (Install doc1) ≡ None
unfolding world_after_entry world_of world_after_step stage_in stage_of stopped_in stopped_by shut_between has_room satisfied_in
b127 = refl

b128 : refusal (with_bundles 128) (Install doc1) ≡ Some BundlesFull
unfolding world_after_entry world_of world_after_step stage_in stage_of stopped_in stopped_by shut_between has_room satisfied_in
b128 = refl

s1023 : refusal (record (with_bundles 1) { registry = record { rows = services_of 1023; numbered = 1023 } }) (Register 1 [] []) ≡ None
unfolding world_after_entry world_of world_after_step stage_in stage_of stopped_in stopped_by shut_between has_room satisfied_in
s1023 = refl

s1024 : refusal (record (with_bundles 1) { registry = record { rows = services_of 1024; numbered = 1024 } }) (Register 1 [] []) ≡ Some ServicesFull
unfolding world_after_entry world_of world_after_step stage_in stage_of stopped_in stopped_by shut_between has_room satisfied_in
s1024 = refl

l63 : refusal (record (with_bundles 1) { listeners = record { rows = listeners_of 63; numbered = 63 } }) (Listen 1 (Present [])) ≡ None
unfolding world_after_entry world_of world_after_step stage_in stage_of stopped_in stopped_by shut_between has_room satisfied_in
l63 = refl

l64 : refusal (record (with_bundles 1) { listeners = record { rows = listeners_of 64; numbered = 64 } }) (Listen 1 (Present [])) ≡ Some ListenersFull
unfolding world_after_entry world_of world_after_step stage_in stage_of stopped_in stopped_by shut_between has_room satisfied_in
l64 = refl

c1023 : refusal (record (with_bundles 1) { configurations = configurations_of 1023 }) (Configure (codes "a-") []) ≡ None
unfolding world_after_entry world_of world_after_step stage_in stage_of stopped_in stopped_by shut_between has_room satisfied_in
c1023 = refl

c1024 : refusal (record (with_bundles 1) { configurations = configurations_of 1024 }) (Configure (codes "a-") []) ≡ Some ConfigurationsFull
unfolding world_after_entry world_of world_after_step stage_in stage_of stopped_in stopped_by shut_between has_room satisfied_in
c1024 = refl

r_max : ranking (record { key = codes "Service.Ranking"; value = (Whole (pos 2147483647)) } ∷ []) ≡ pos 2147483647
r_max = refl

r_over : ranking (record { key = codes "Service.Ranking"; value = (Whole (pos 2147483648)) } ∷ []) ≡ pos 0
r_over = refl

r_min : ranking (record { key = codes "Service.Ranking"; value = (Whole (negsuc 2147483647)) } ∷ []) ≡ negsuc 2147483647
r_min = refl

r_under : ranking (record { key = codes "Service.Ranking"; value = (Whole (negsuc 2147483648)) } ∷ []) ≡ pos 0
r_under = refl

r_text : ranking (record { key = codes "Service.Ranking"; value = (Text (codes "5")) } ∷ []) ≡ pos 0
r_text = refl

abbrev descriptions_so : ℕ → List Description
descriptions_so zero = []
descriptions_so (suc n) = record { name = (codes "c"); scope = Singleton; implementation_class = (codes "K"); default_enabled = true; immediate = true; service_interfaces = []; properties = []; references = []; modified = None; configuration_policy = Optional; configuration_pids = ((codes "c") ∷ []); implicit = true } ∷ descriptions_so n

abbrev with_descriptions : ℕ → World
with_descriptions n = record empty_world { bundles = record { rows = record { number = 1; location = codes "x"; name = codes "x"; version = record { major = 0; minor = 0; micro = 0; qualifier = [] }; state = Resolved } ∷ []; numbered = 1; events = [] }; documents = record { bundle = 1; document = record { location = codes "x"; name = codes "x"; version = record { major = 0; minor = 0; micro = 0; qualifier = [] }; manifest = None; activator = None; descriptions = descriptions_so n }; enabled = [] } ∷ [] }

f512 : refusal (with_descriptions 512) (Start 1) ≡ None
unfolding world_after_entry world_of world_after_step stage_in stage_of stopped_in stopped_by shut_between has_room satisfied_in
f512 = refl

f513 : refusal (with_descriptions 513) (Start 1) ≡ Some ComponentsFull
unfolding world_after_entry world_of world_after_step stage_in stage_of stopped_in stopped_by shut_between has_room satisfied_in
f513 = refl
