-- A worked example, as an independent model of the platform has it.
use Rattle.std.specs.Prelude.{◌≡◌, refl, ℕ, List, [], ◌∷◌, codes, true, false, Some, None, Ok, Err, pos, negsuc}
use Rattle.prop_map.specs.declared.value.Value.TheVariants.{Text, Whole, Flag, Texts, Wholes, Flags}
use Rattle.prop_map.specs.declared.reference_words.Cardinality.TheVariants.{ZeroOrOne, One, ZeroOrMore, OneOrMore}
use Rattle.prop_map.specs.declared.reference_words.Policy.TheVariants.{Static, Dynamic}
use Rattle.prop_map.specs.declared.reference_words.PolicyOption.TheVariants.{Reluctant, Greedy}
use Rattle.component_dto.specs.declared.description.Scope.TheVariants.{Singleton, Bundle as InBundleScope, Prototype}
use Rattle.component_dto.specs.declared.description.ConfigurationPolicy.TheVariants.{Optional, Require, Ignore}
use Rattle.bundle_doc.specs.declared.document.BundleDoc.{BundleDoc}
use Rattle.bundle_life.specs.declared.bundle.BundleEvent.{BundleEvent}
use Rattle.journal_examples.proofs.Trees.{tree_or_none}
use Rattle.callback_orders.specs.declared.callback.Callback.TheVariants.{Create, Bind, Updated, Unbind, Activate, Modified, Deactivate, Destroy}
use Rattle.callback_orders.specs.declared.callback.Outcome.TheVariants.{Done, Refused, NoMemory}
use Rattle.service_listeners.specs.declared.listener.ServiceEvent.{ServiceEvent}
use Rattle.scr_world.specs.declared.step.Step.TheVariants.{Command as Commanded, Begin, End, Drained, Got, Released}
use Rattle.scr_world.specs.declared.command.Command.TheVariants.{Install, Update, Start, Stop, Uninstall, Enable, Disable, Register, Unregister, SetProperties, Get, Unget, Listen, Unlisten, Configure, ConfigureFactory, Unconfigure}
use Rattle.scr_world.specs.declared.reply.CoreFault.TheVariants.{NoBundle, NoComponent, WrongState, Stopping, SameName, Cycle, BundlesFull, ComponentsFull, ServicesFull, ConfigurationsFull, ListenersFull, NoService, NotOwner, NotUsing, NoListener, NoConfiguration, BadPid, FactoryClash, ActivationFailed, ActivationNoMemory, JournalFull}
use Rattle.scr_world.specs.declared.reply.Reply.TheVariants.{Done as IsDone, Bundle as InBundle, Service as AsService, Uses as WithUses, Listener as AsListener}
use Rattle.scr_world.specs.Steps.{History}
use Rattle.scr_world.specs.declared.world.World.{World}
use Rattle.journal_examples.proofs.Meanings.{legal_means}
use Rattle.scr_world.specs.Legal.{IsLegal}
use Rattle.journal_examples.proofs.Tests.{worlds, legal, begins, states, quiet_ones, right_ones, asked, replies, bundle_events_at_end, events_at_end, held_at_end, found_at_end, wanted_at, bound_at_end, calm_at_end}
use Rattle.scr_world.specs.Worlds.{satisfied_in}
use Rattle.scr_world.specs.Room.{has_room}
use Rattle.scr_world.specs.Consequences.{stage_in, stage_of, stopped_in, stopped_by, shut_between}
use Rattle.scr_world.specs.Stepping.{world_after_step}
use Rattle.scr_world.specs.Lists.{world_after_entry, world_of}

abbrev doc1 : BundleDoc
doc1 = record { location = (codes "b0"); name = (codes "b0"); version = record { major = 0; minor = 0; micro = 0; qualifier = [] }; manifest = None; activator = None; descriptions = (record { name = (codes "c1"); scope = Singleton; implementation_class = (codes "demo.Echo"); default_enabled = true; immediate = true; service_interfaces = ((codes "I1") ∷ []); properties = (record { key = (codes "refuse"); value = (Text (codes "modified")) } ∷ record { key = (codes "v"); value = (Whole (pos 2)) } ∷ []); references = (record { name = (codes "r0"); interface_name = (codes "Y"); cardinality = ZeroOrMore; policy = Static; policy_option = Reluctant; target = None; updated = None } ∷ []); modified = None; configuration_policy = Optional; configuration_pids = ((codes "c1") ∷ []); implicit = true } ∷ record { name = (codes "c3"); scope = Singleton; implementation_class = (codes "demo.Relay"); default_enabled = true; immediate = false; service_interfaces = ((codes "I2") ∷ []); properties = (record { key = (codes "osgi.ds.satisfying.condition.target"); value = (Text (codes "(osgi.condition.id=q)")) } ∷ record { key = (codes "v"); value = (Whole (pos 1)) } ∷ []); references = (record { name = (codes "next"); interface_name = (codes "X"); cardinality = One; policy = Static; policy_option = Reluctant; target = (Some (codes "(service.ranking>=1)")); updated = (Some (codes "u")) } ∷ []); modified = None; configuration_policy = Optional; configuration_pids = ((codes "c3") ∷ []); implicit = true } ∷ record { name = (codes "c2"); scope = Singleton; implementation_class = (codes "demo.Relay"); default_enabled = true; immediate = false; service_interfaces = ((codes "J1") ∷ []); properties = (record { key = (codes ".p"); value = (Whole (pos 0)) } ∷ record { key = (codes "r0.cardinality.minimum"); value = (Whole (pos 2)) } ∷ record { key = (codes "refuse"); value = (Text (codes "deactivate")) } ∷ []); references = (record { name = (codes "r0"); interface_name = (codes "Y"); cardinality = ZeroOrOne; policy = Static; policy_option = Reluctant; target = None; updated = (Some (codes "u")) } ∷ []); modified = None; configuration_policy = Optional; configuration_pids = ((codes "c2") ∷ []); implicit = true } ∷ []) }

abbrev doc2 : BundleDoc
doc2 = record { location = (codes "b1"); name = (codes "b1"); version = record { major = 0; minor = 0; micro = 0; qualifier = [] }; manifest = None; activator = None; descriptions = (record { name = (codes "c0"); scope = Singleton; implementation_class = (codes "demo.Relay"); default_enabled = true; immediate = false; service_interfaces = ((codes "I1") ∷ (codes "J1") ∷ []); properties = (record { key = (codes "service.ranking"); value = (Whole (pos 0)) } ∷ record { key = (codes "v"); value = (Whole (pos 0)) } ∷ []); references = (record { name = (codes "next"); interface_name = (codes "Y"); cardinality = OneOrMore; policy = Static; policy_option = Reluctant; target = None; updated = (Some (codes "u")) } ∷ []); modified = None; configuration_policy = Optional; configuration_pids = ((codes "c0") ∷ []); implicit = true } ∷ []) }

abbrev past0 : History
past0 = []

abbrev past1 : History
past1 = record { step = (Commanded (Install doc1)); closed = []; opened = []; stopped = [] } ∷ past0

abbrev past2 : History
past2 = record { step = (Commanded (Install doc2)); closed = []; opened = []; stopped = [] } ∷ past1

abbrev past3 : History
past3 = record { step = (Commanded (Start 2)); closed = []; opened = []; stopped = [] } ∷ past2

abbrev past4 : History
past4 = record { step = (Commanded (Start 1)); closed = []; opened = (record { configuration = 2; service = 1 } ∷ record { configuration = 4; service = 2 } ∷ []); stopped = [] } ∷ past3

abbrev past5 : History
past5 = record { step = (Commanded (Stop 1)); closed = (2 ∷ 4 ∷ []); opened = []; stopped = (1 ∷ []) } ∷ past4

abbrev past6 : History
past6 = record { step = (Commanded (Start 1)); closed = []; opened = (record { configuration = 5; service = 3 } ∷ record { configuration = 7; service = 4 } ∷ []); stopped = [] } ∷ past5

abbrev past7 : History
past7 = record { step = (Got 1 3); closed = []; opened = []; stopped = [] } ∷ past6

abbrev past8 : History
past8 = record { step = (Begin 1 1 5 0 Create (record { reference = 0; services = [] } ∷ [])); closed = []; opened = []; stopped = [] } ∷ past7

abbrev past9 : History
past9 = record { step = (End 1 Done); closed = []; opened = []; stopped = [] } ∷ past8

abbrev past10 : History
past10 = record { step = (Begin 2 1 5 0 Activate []); closed = []; opened = []; stopped = [] } ∷ past9

abbrev past11 : History
past11 = record { step = (End 2 Done); closed = []; opened = []; stopped = [] } ∷ past10

abbrev past12 : History
past12 = record { step = (Released 6); closed = []; opened = []; stopped = [] } ∷ past11

abbrev past13 : History
past13 = record { step = (Got 1 4); closed = []; opened = []; stopped = [] } ∷ past12

abbrev past14 : History
past14 = record { step = (Begin 3 2 7 0 Create (record { reference = 0; services = [] } ∷ [])); closed = []; opened = []; stopped = [] } ∷ past13

abbrev past15 : History
past15 = record { step = (End 3 Done); closed = []; opened = []; stopped = [] } ∷ past14

abbrev past16 : History
past16 = record { step = (Begin 4 2 7 0 Activate []); closed = []; opened = []; stopped = [] } ∷ past15

abbrev past17 : History
past17 = record { step = (End 4 Done); closed = []; opened = []; stopped = [] } ∷ past16

abbrev past18 : History
past18 = record { step = (Released 12); closed = []; opened = []; stopped = [] } ∷ past17

abbrev past19 : History
past19 = record { step = (Commanded (Disable 1 (codes "c3"))); closed = []; opened = []; stopped = [] } ∷ past18

abbrev all : List World
all = worlds past19

is_legal : legal 4194304 past19 all ≡ true
unfolding world_after_entry world_of world_after_step stage_in stage_of stopped_in stopped_by shut_between has_room satisfied_in
is_legal = refl

stands_legal : IsLegal 4194304 past19
stands_legal = legal_means 4194304 past19 is_legal

which_begin : begins all ≡ (None ∷ None ∷ None ∷ None ∷ (Some (Begin 4 2 7 0 Activate [])) ∷ None ∷ (Some (Begin 3 2 7 0 Create (record { reference = 0; services = [] } ∷ []))) ∷ None ∷ None ∷ None ∷ (Some (Begin 2 1 5 0 Activate [])) ∷ None ∷ (Some (Begin 1 1 5 0 Create (record { reference = 0; services = [] } ∷ []))) ∷ (Some (Begin 1 1 5 0 Create (record { reference = 0; services = [] } ∷ []))) ∷ None ∷ (Some (Begin 1 1 2 0 Create (record { reference = 0; services = [] } ∷ []))) ∷ None ∷ None ∷ None ∷ None ∷ [])
unfolding world_after_entry world_of world_after_step stage_in stage_of stopped_in stopped_by shut_between has_room satisfied_in
which_begin = refl

which_states : states all ≡ (((1, 2) ∷ (5, 8) ∷ (7, 8) ∷ []) ∷ ((1, 2) ∷ (5, 8) ∷ (6, 2) ∷ (7, 8) ∷ []) ∷ ((1, 2) ∷ (5, 8) ∷ (6, 2) ∷ (7, 8) ∷ []) ∷ ((1, 2) ∷ (5, 8) ∷ (6, 2) ∷ (7, 4) ∷ []) ∷ ((1, 2) ∷ (5, 8) ∷ (6, 2) ∷ (7, 4) ∷ []) ∷ ((1, 2) ∷ (5, 8) ∷ (6, 2) ∷ (7, 4) ∷ []) ∷ ((1, 2) ∷ (5, 8) ∷ (6, 2) ∷ (7, 4) ∷ []) ∷ ((1, 2) ∷ (5, 8) ∷ (6, 2) ∷ (7, 4) ∷ []) ∷ ((1, 2) ∷ (5, 8) ∷ (6, 2) ∷ (7, 4) ∷ []) ∷ ((1, 2) ∷ (5, 4) ∷ (6, 2) ∷ (7, 4) ∷ []) ∷ ((1, 2) ∷ (5, 4) ∷ (6, 2) ∷ (7, 4) ∷ []) ∷ ((1, 2) ∷ (5, 4) ∷ (6, 2) ∷ (7, 4) ∷ []) ∷ ((1, 2) ∷ (5, 4) ∷ (6, 2) ∷ (7, 4) ∷ []) ∷ ((1, 2) ∷ (5, 4) ∷ (6, 2) ∷ (7, 4) ∷ []) ∷ ((1, 2) ∷ []) ∷ ((1, 2) ∷ (2, 4) ∷ (3, 2) ∷ (4, 4) ∷ []) ∷ ((1, 2) ∷ []) ∷ [] ∷ [] ∷ [] ∷ [])
unfolding world_after_entry world_of world_after_step stage_in stage_of stopped_in stopped_by shut_between has_room satisfied_in
which_states = refl

which_quiet : quiet_ones all ≡ (true ∷ true ∷ true ∷ false ∷ false ∷ false ∷ false ∷ true ∷ true ∷ false ∷ false ∷ false ∷ false ∷ false ∷ true ∷ false ∷ true ∷ true ∷ true ∷ true ∷ [])
unfolding world_after_entry world_of world_after_step stage_in stage_of stopped_in stopped_by shut_between has_room satisfied_in
which_quiet = refl

which_right : right_ones all ≡ (true ∷ true ∷ true ∷ false ∷ false ∷ false ∷ false ∷ true ∷ true ∷ false ∷ false ∷ false ∷ false ∷ false ∷ true ∷ false ∷ true ∷ true ∷ true ∷ true ∷ [])
unfolding world_after_entry world_of world_after_step stage_in stage_of stopped_in stopped_by shut_between has_room satisfied_in
which_right = refl

which_wanted : wanted_at all ≡ ((record { configuration = 5; consumer = 0 } ∷ []) ∷ (record { configuration = 5; consumer = 0 } ∷ []) ∷ (record { configuration = 5; consumer = 0 } ∷ record { configuration = 7; consumer = 0 } ∷ []) ∷ (record { configuration = 5; consumer = 0 } ∷ record { configuration = 7; consumer = 0 } ∷ []) ∷ (record { configuration = 5; consumer = 0 } ∷ record { configuration = 7; consumer = 0 } ∷ []) ∷ (record { configuration = 5; consumer = 0 } ∷ record { configuration = 7; consumer = 0 } ∷ []) ∷ (record { configuration = 5; consumer = 0 } ∷ record { configuration = 7; consumer = 0 } ∷ []) ∷ (record { configuration = 5; consumer = 0 } ∷ []) ∷ (record { configuration = 5; consumer = 0 } ∷ []) ∷ (record { configuration = 5; consumer = 0 } ∷ []) ∷ (record { configuration = 5; consumer = 0 } ∷ []) ∷ (record { configuration = 5; consumer = 0 } ∷ []) ∷ (record { configuration = 5; consumer = 0 } ∷ []) ∷ (record { configuration = 5; consumer = 0 } ∷ []) ∷ [] ∷ (record { configuration = 2; consumer = 0 } ∷ []) ∷ [] ∷ [] ∷ [] ∷ [] ∷ [])
unfolding world_after_entry world_of world_after_step stage_in stage_of stopped_in stopped_by shut_between has_room satisfied_in
which_wanted = refl

which_replies : replies 4194304 all (asked 0 (Install doc1) ∷ asked 1 (Install doc2) ∷ asked 2 (Start 2) ∷ asked 3 (Start 1) ∷ asked 4 (Stop 1) ∷ asked 5 (Start 1) ∷ asked 18 (Disable 1 (codes "c3")) ∷ []) ≡ ((Ok (InBundle 1)) ∷ (Ok (InBundle 2)) ∷ (Ok IsDone) ∷ (Ok IsDone) ∷ (Ok IsDone) ∷ (Ok IsDone) ∷ (Ok IsDone) ∷ [])
unfolding world_after_entry world_of world_after_step stage_in stage_of stopped_in stopped_by shut_between has_room satisfied_in
which_replies = refl

bundle_events : bundle_events_at_end all ≡ (record { value = 1; bundle = 1 } ∷ record { value = 1; bundle = 2 } ∷ record { value = 32; bundle = 2 } ∷ record { value = 128; bundle = 2 } ∷ record { value = 2; bundle = 2 } ∷ record { value = 32; bundle = 1 } ∷ record { value = 128; bundle = 1 } ∷ record { value = 2; bundle = 1 } ∷ record { value = 256; bundle = 1 } ∷ record { value = 4; bundle = 1 } ∷ record { value = 128; bundle = 1 } ∷ record { value = 2; bundle = 1 } ∷ [])
unfolding world_after_entry world_of world_after_step stage_in stage_of stopped_in stopped_by shut_between has_room satisfied_in
bundle_events = refl

held_1 : held_at_end 1 all ≡ []
unfolding world_after_entry world_of world_after_step stage_in stage_of stopped_in stopped_by shut_between has_room satisfied_in
held_1 = refl

held_5 : held_at_end 5 all ≡ []
unfolding world_after_entry world_of world_after_step stage_in stage_of stopped_in stopped_by shut_between has_room satisfied_in
held_5 = refl

held_7 : held_at_end 7 all ≡ []
unfolding world_after_entry world_of world_after_step stage_in stage_of stopped_in stopped_by shut_between has_room satisfied_in
held_7 = refl

bound_is : bound_at_end all ≡ 66
unfolding world_after_entry world_of world_after_step stage_in stage_of stopped_in stopped_by shut_between has_room satisfied_in
bound_is = refl

calm_is : calm_at_end all ≡ true
unfolding world_after_entry world_of world_after_step stage_in stage_of stopped_in stopped_by shut_between has_room satisfied_in
calm_is = refl
