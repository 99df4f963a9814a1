-- A worked example, as an independent model of the platform has it.
use Rattle.std.specs.Prelude.{◌≡◌, refl, ℕ, List, [], ◌∷◌, codes, true, false, Some, None, Ok, Err, pos, negsuc}
use Rattle.prop_map.specs.declared.value.Value.TheVariants.{Text, Whole, Flag, Texts, Wholes, Flags}
use Rattle.prop_map.specs.declared.reference_words.Cardinality.TheVariants.{ZeroOrOne, One, ZeroOrMore, OneOrMore}
use Rattle.prop_map.specs.declared.reference_words.Policy.TheVariants.{Static, Dynamic}
use Rattle.prop_map.specs.declared.reference_words.PolicyOption.TheVariants.{Reluctant, Greedy}
use Rattle.component_dto.specs.declared.description.Scope.TheVariants.{Singleton, Bundle as InBundleScope, Prototype}
use Rattle.component_dto.specs.declared.description.ConfigurationPolicy.TheVariants.{Optional, Require, Ignore}
use Rattle.bundle_doc.specs.declared.document.BundleDoc.{BundleDoc}
use Rattle.bundle_life.specs.declared.bundle.BundleEvent.{BundleEvent}
use Rattle.journal_examples.proofs.Trees.{tree_or_none}
use Rattle.callback_orders.specs.declared.callback.Callback.TheVariants.{Create, Bind, Updated, Unbind, Activate, Modified, Deactivate, Destroy}
use Rattle.callback_orders.specs.declared.callback.Outcome.TheVariants.{Done, Refused, NoMemory}
use Rattle.service_listeners.specs.declared.listener.ServiceEvent.{ServiceEvent}
use Rattle.scr_world.specs.declared.step.Step.TheVariants.{Command as Commanded, Begin, End, Drained, Got, Released}
use Rattle.scr_world.specs.declared.command.Command.TheVariants.{Install, Update, Start, Stop, Uninstall, Enable, Disable, Register, Unregister, SetProperties, Get, Unget, Listen, Unlisten, Configure, ConfigureFactory, Unconfigure}
use Rattle.scr_world.specs.declared.reply.CoreFault.TheVariants.{NoBundle, NoComponent, WrongState, Stopping, SameName, Cycle, BundlesFull, ComponentsFull, ServicesFull, ConfigurationsFull, ListenersFull, NoService, NotOwner, NotUsing, NoListener, NoConfiguration, BadPid, FactoryClash, ActivationFailed, ActivationNoMemory, JournalFull}
use Rattle.scr_world.specs.declared.reply.Reply.TheVariants.{Done as IsDone, Bundle as InBundle, Service as AsService, Uses as WithUses, Listener as AsListener}
use Rattle.scr_world.specs.Steps.{History}
use Rattle.scr_world.specs.declared.world.World.{World}
use Rattle.journal_examples.proofs.Meanings.{legal_means}
use Rattle.scr_world.specs.Legal.{IsLegal}
use Rattle.journal_examples.proofs.Tests.{worlds, legal, begins, states, quiet_ones, right_ones, asked, replies, bundle_events_at_end, events_at_end, held_at_end, found_at_end, wanted_at, bound_at_end, calm_at_end}
use Rattle.scr_world.specs.Worlds.{satisfied_in}
use Rattle.scr_world.specs.Room.{has_room}
use Rattle.scr_world.specs.Consequences.{stage_in, stage_of, stopped_in, stopped_by, shut_between}
use Rattle.scr_world.specs.Stepping.{world_after_step}
use Rattle.scr_world.specs.Lists.{world_after_entry, world_of}

abbrev doc1 : BundleDoc
doc1 = record { location = (codes "b0"); name = (codes "b0"); version = record { major = 0; minor = 0; micro = 0; qualifier = [] }; manifest = None; activator = None; descriptions = (record { name = (codes "c2"); scope = InBundleScope; implementation_class = (codes "demo.Relay"); default_enabled = true; immediate = false; service_interfaces = ((codes "I0") ∷ (codes "J0") ∷ []); properties = (record { key = (codes ".p"); value = (Whole (pos 1)) } ∷ record { key = (codes "refuse"); value = (Text (codes "deactivate")) } ∷ record { key = (codes "service.ranking"); value = (Whole (negsuc 0)) } ∷ []); references = []; modified = None; configuration_policy = Optional; configuration_pids = ((codes "c2") ∷ []); implicit = true } ∷ record { name = (codes "c4"); scope = Singleton; implementation_class = (codes "demo.Relay"); default_enabled = true; immediate = true; service_interfaces = []; properties = (record { key = (codes "service.ranking"); value = (Whole (pos 3)) } ∷ []); references = (record { name = (codes "next"); interface_name = (codes "J0"); cardinality = ZeroOrOne; policy = Dynamic; policy_option = Reluctant; target = None; updated = (Some (codes "u")) } ∷ []); modified = None; configuration_policy = Optional; configuration_pids = ((codes "q") ∷ []); implicit = true } ∷ []) }

abbrev doc2 : BundleDoc
doc2 = record { location = (codes "b1"); name = (codes "b1"); version = record { major = 0; minor = 0; micro = 0; qualifier = [] }; manifest = None; activator = None; descriptions = (record { name = (codes "c3"); scope = InBundleScope; implementation_class = (codes "demo.Echo"); default_enabled = true; immediate = false; service_interfaces = ((codes "J0") ∷ []); properties = (record { key = (codes "refuse"); value = (Text (codes "deactivate")) } ∷ record { key = (codes "service.ranking"); value = (Whole (pos 3)) } ∷ record { key = (codes "v"); value = (Whole (pos 0)) } ∷ []); references = (record { name = (codes "r0"); interface_name = (codes "Y"); cardinality = One; policy = Static; policy_option = Reluctant; target = None; updated = None } ∷ []); modified = None; configuration_policy = Optional; configuration_pids = ((codes "c3") ∷ []); implicit = true } ∷ record { name = (codes "c5"); scope = Prototype; implementation_class = (codes "demo.Relay"); default_enabled = true; immediate = false; service_interfaces = ((codes "J3") ∷ []); properties = (record { key = (codes "service.ranking"); value = (Whole (pos 2)) } ∷ []); references = []; modified = None; configuration_policy = Optional; configuration_pids = ((codes "c5") ∷ []); implicit = true } ∷ []) }

abbrev doc3 : BundleDoc
doc3 = record { location = (codes "b2"); name = (codes "b2"); version = record { major = 0; minor = 0; micro = 0; qualifier = [] }; manifest = None; activator = None; descriptions = (record { name = (codes "c0"); scope = Singleton; implementation_class = (codes "demo.Echo"); default_enabled = true; immediate = false; service_interfaces = ((codes "I0") ∷ (codes "J0") ∷ []); properties = (record { key = (codes "service.ranking"); value = (Whole (pos 1)) } ∷ []); references = (record { name = (codes "r0"); interface_name = (codes "Y"); cardinality = ZeroOrMore; policy = Static; policy_option = Reluctant; target = None; updated = None } ∷ []); modified = (Some (codes "m")); configuration_policy = Optional; configuration_pids = ((codes "c0") ∷ (codes "q") ∷ []); implicit = true } ∷ record { name = (codes "c1"); scope = Prototype; implementation_class = (codes "K"); default_enabled = true; immediate = false; service_interfaces = ((codes "J0") ∷ []); properties = (record { key = (codes "service.ranking"); value = (Whole (pos 3)) } ∷ record { key = (codes "text"); value = (Text (codes "Tc1")) } ∷ record { key = (codes "v"); value = (Whole (pos 2)) } ∷ []); references = []; modified = None; configuration_policy = Optional; configuration_pids = ((codes "c1") ∷ (codes "q") ∷ []); implicit = true } ∷ []) }

abbrev past0 : History
past0 = []

abbrev past1 : History
past1 = record { step = (Commanded (Install doc1)); closed = []; opened = []; stopped = [] } ∷ past0

abbrev past2 : History
past2 = record { step = (Commanded (Install doc2)); closed = []; opened = []; stopped = [] } ∷ past1

abbrev past3 : History
past3 = record { step = (Commanded (Install doc3)); closed = []; opened = []; stopped = [] } ∷ past2

abbrev past4 : History
past4 = record { step = (Commanded (Start 1)); closed = []; opened = (record { configuration = 1; service = 1 } ∷ record { configuration = 2; service = 0 } ∷ []); stopped = [] } ∷ past3

abbrev past5 : History
past5 = record { step = (Commanded (Register 1 ((codes "Y") ∷ []) [])); closed = []; opened = []; stopped = [] } ∷ past4

abbrev past6 : History
past6 = record { step = (Commanded (Start 2)); closed = []; opened = (record { configuration = 3; service = 3 } ∷ record { configuration = 4; service = 4 } ∷ []); stopped = [] } ∷ past5

abbrev past7 : History
past7 = record { step = (Commanded (Register 2 ((codes "Y") ∷ []) (record { key = (codes "service.ranking"); value = (Whole (pos 1)) } ∷ []))); closed = []; opened = []; stopped = [] } ∷ past6

abbrev past8 : History
past8 = record { step = (Commanded (Start 3)); closed = []; opened = (record { configuration = 5; service = 6 } ∷ record { configuration = 6; service = 7 } ∷ []); stopped = [] } ∷ past7

abbrev past9 : History
past9 = record { step = (Commanded (Register 3 ((codes "Y") ∷ []) (record { key = (codes "service.ranking"); value = (Whole (negsuc 0)) } ∷ record { key = (codes "v"); value = (Whole (pos 0)) } ∷ []))); closed = []; opened = []; stopped = [] } ∷ past8

abbrev past10 : History
past10 = record { step = (Begin 1 1 2 0 Create []); closed = []; opened = []; stopped = [] } ∷ past9

abbrev past11 : History
past11 = record { step = (End 1 Done); closed = []; opened = []; stopped = [] } ∷ past10

abbrev past12 : History
past12 = record { step = (Commanded (Register 3 ((codes "javax.servlet.Servlet") ∷ []) (record { key = (codes "osgi.http.whiteboard.servlet.pattern"); value = (Text (codes "/d")) } ∷ record { key = (codes "v"); value = (Whole (pos 0)) } ∷ []))); closed = []; opened = []; stopped = [] } ∷ past11

abbrev past13 : History
past13 = record { step = (Begin 2 0 0 0 (Bind (codes "servlets") 9) []); closed = []; opened = []; stopped = [] } ∷ past12

abbrev past14 : History
past14 = record { step = (Begin 3 2 3 1 Create (record { reference = 0; services = (5 ∷ []) } ∷ [])); closed = []; opened = []; stopped = [] } ∷ past13

abbrev past15 : History
past15 = record { step = (Commanded (SetProperties 1 2 (record { key = (codes "service.ranking"); value = (Whole (negsuc 0)) } ∷ record { key = (codes "v"); value = (Whole (pos 2)) } ∷ []))); closed = []; opened = []; stopped = [] } ∷ past14

abbrev past16 : History
past16 = record { step = (Commanded (Disable 1 (codes "c4"))); closed = (2 ∷ []); opened = []; stopped = [] } ∷ past15

abbrev past17 : History
past17 = record { step = (Begin 4 1 2 0 Destroy []); closed = []; opened = []; stopped = [] } ∷ past16

abbrev all : List World
all = worlds past17

is_legal : legal 4194304 past17 all ≡ true
unfolding world_after_entry world_of world_after_step stage_in stage_of stopped_in stopped_by shut_between has_room satisfied_in
is_legal = refl

stands_legal : IsLegal 4194304 past17
stands_legal = legal_means 4194304 past17 is_legal

which_begin : begins all ≡ (None ∷ (Some (Begin 4 1 2 0 Destroy [])) ∷ None ∷ None ∷ (Some (Begin 3 2 3 1 Create (record { reference = 0; services = (5 ∷ []) } ∷ []))) ∷ (Some (Begin 2 0 0 0 (Bind (codes "servlets") 9) [])) ∷ (Some (Begin 2 2 3 1 Create (record { reference = 0; services = (5 ∷ []) } ∷ []))) ∷ (Some (Begin 2 2 3 1 Create (record { reference = 0; services = (5 ∷ []) } ∷ []))) ∷ (Some (Begin 1 1 2 0 Create [])) ∷ (Some (Begin 1 1 2 0 Create [])) ∷ (Some (Begin 1 1 2 0 Create [])) ∷ (Some (Begin 1 1 2 0 Create [])) ∷ (Some (Begin 1 1 2 0 Create [])) ∷ (Some (Begin 1 1 2 0 Create [])) ∷ None ∷ None ∷ None ∷ None ∷ [])
unfolding world_after_entry world_of world_after_step stage_in stage_of stopped_in stopped_by shut_between has_room satisfied_in
which_begin = refl

which_states : states all ≡ (((1, 4) ∷ (3, 4) ∷ (4, 4) ∷ (5, 4) ∷ (6, 4) ∷ []) ∷ ((1, 4) ∷ (3, 4) ∷ (4, 4) ∷ (5, 4) ∷ (6, 4) ∷ []) ∷ ((1, 4) ∷ (2, 4) ∷ (3, 4) ∷ (4, 4) ∷ (5, 4) ∷ (6, 4) ∷ []) ∷ ((1, 4) ∷ (2, 4) ∷ (3, 4) ∷ (4, 4) ∷ (5, 4) ∷ (6, 4) ∷ []) ∷ ((1, 4) ∷ (2, 4) ∷ (3, 4) ∷ (4, 4) ∷ (5, 4) ∷ (6, 4) ∷ []) ∷ ((1, 4) ∷ (2, 4) ∷ (3, 4) ∷ (4, 4) ∷ (5, 4) ∷ (6, 4) ∷ []) ∷ ((1, 4) ∷ (2, 4) ∷ (3, 4) ∷ (4, 4) ∷ (5, 4) ∷ (6, 4) ∷ []) ∷ ((1, 4) ∷ (2, 4) ∷ (3, 4) ∷ (4, 4) ∷ (5, 4) ∷ (6, 4) ∷ []) ∷ ((1, 4) ∷ (2, 4) ∷ (3, 4) ∷ (4, 4) ∷ (5, 4) ∷ (6, 4) ∷ []) ∷ ((1, 4) ∷ (2, 4) ∷ (3, 4) ∷ (4, 4) ∷ (5, 4) ∷ (6, 4) ∷ []) ∷ ((1, 4) ∷ (2, 4) ∷ (3, 4) ∷ (4, 4) ∷ []) ∷ ((1, 4) ∷ (2, 4) ∷ (3, 4) ∷ (4, 4) ∷ []) ∷ ((1, 4) ∷ (2, 4) ∷ []) ∷ ((1, 4) ∷ (2, 4) ∷ []) ∷ [] ∷ [] ∷ [] ∷ [] ∷ [])
unfolding world_after_entry world_of world_after_step stage_in stage_of stopped_in stopped_by shut_between has_room satisfied_in
which_states = refl

which_quiet : quiet_ones all ≡ (false ∷ false ∷ false ∷ false ∷ false ∷ false ∷ false ∷ false ∷ false ∷ false ∷ false ∷ false ∷ false ∷ false ∷ true ∷ true ∷ true ∷ true ∷ [])
unfolding world_after_entry world_of world_after_step stage_in stage_of stopped_in stopped_by shut_between has_room satisfied_in
which_quiet = refl

which_right : right_ones all ≡ (false ∷ false ∷ false ∷ false ∷ false ∷ false ∷ false ∷ false ∷ false ∷ false ∷ false ∷ false ∷ false ∷ false ∷ true ∷ true ∷ true ∷ true ∷ [])
unfolding world_after_entry world_of world_after_step stage_in stage_of stopped_in stopped_by shut_between has_room satisfied_in
which_right = refl

which_wanted : wanted_at all ≡ ([] ∷ [] ∷ (record { configuration = 2; consumer = 0 } ∷ record { configuration = 3; consumer = 1 } ∷ []) ∷ (record { configuration = 2; consumer = 0 } ∷ record { configuration = 3; consumer = 1 } ∷ []) ∷ (record { configuration = 2; consumer = 0 } ∷ record { configuration = 3; consumer = 1 } ∷ []) ∷ (record { configuration = 2; consumer = 0 } ∷ record { configuration = 3; consumer = 1 } ∷ []) ∷ (record { configuration = 2; consumer = 0 } ∷ record { configuration = 3; consumer = 1 } ∷ []) ∷ (record { configuration = 2; consumer = 0 } ∷ record { configuration = 3; consumer = 1 } ∷ []) ∷ (record { configuration = 2; consumer = 0 } ∷ []) ∷ (record { configuration = 2; consumer = 0 } ∷ []) ∷ (record { configuration = 2; consumer = 0 } ∷ []) ∷ (record { configuration = 2; consumer = 0 } ∷ []) ∷ (record { configuration = 2; consumer = 0 } ∷ []) ∷ (record { configuration = 2; consumer = 0 } ∷ []) ∷ [] ∷ [] ∷ [] ∷ [] ∷ [])
unfolding world_after_entry world_of world_after_step stage_in stage_of stopped_in stopped_by shut_between has_room satisfied_in
which_wanted = refl

which_replies : replies 4194304 all (asked 0 (Install doc1) ∷ asked 1 (Install doc2) ∷ asked 2 (Install doc3) ∷ asked 3 (Start 1) ∷ asked 4 (Register 1 ((codes "Y") ∷ []) []) ∷ asked 5 (Start 2) ∷ asked 6 (Register 2 ((codes "Y") ∷ []) (record { key = (codes "service.ranking"); value = (Whole (pos 1)) } ∷ [])) ∷ asked 7 (Start 3) ∷ asked 8 (Register 3 ((codes "Y") ∷ []) (record { key = (codes "service.ranking"); value = (Whole (negsuc 0)) } ∷ record { key = (codes "v"); value = (Whole (pos 0)) } ∷ [])) ∷ asked 11 (Register 3 ((codes "javax.servlet.Servlet") ∷ []) (record { key = (codes "osgi.http.whiteboard.servlet.pattern"); value = (Text (codes "/d")) } ∷ record { key = (codes "v"); value = (Whole (pos 0)) } ∷ [])) ∷ asked 12 (Install doc3) ∷ asked 14 (SetProperties 1 2 (record { key = (codes "service.ranking"); value = (Whole (negsuc 0)) } ∷ record { key = (codes "v"); value = (Whole (pos 2)) } ∷ [])) ∷ asked 15 (Disable 1 (codes "c4")) ∷ asked 17 (Unconfigure (codes "q")) ∷ []) ≡ ((Ok (InBundle 1)) ∷ (Ok (InBundle 2)) ∷ (Ok (InBundle 3)) ∷ (Ok IsDone) ∷ (Ok (AsService 2)) ∷ (Ok IsDone) ∷ (Ok (AsService 5)) ∷ (Ok IsDone) ∷ (Ok (AsService 8)) ∷ (Ok (AsService 9)) ∷ (Ok (InBundle 3)) ∷ (Ok IsDone) ∷ (Ok IsDone) ∷ (Err NoConfiguration) ∷ [])
unfolding world_after_entry world_of world_after_step stage_in stage_of stopped_in stopped_by shut_between has_room satisfied_in
which_replies = refl

bundle_events : bundle_events_at_end all ≡ (record { value = 1; bundle = 1 } ∷ record { value = 1; bundle = 2 } ∷ record { value = 1; bundle = 3 } ∷ record { value = 32; bundle = 1 } ∷ record { value = 128; bundle = 1 } ∷ record { value = 2; bundle = 1 } ∷ record { value = 32; bundle = 2 } ∷ record { value = 128; bundle = 2 } ∷ record { value = 2; bundle = 2 } ∷ record { value = 32; bundle = 3 } ∷ record { value = 128; bundle = 3 } ∷ record { value = 2; bundle = 3 } ∷ [])
unfolding world_after_entry world_of world_after_step stage_in stage_of stopped_in stopped_by shut_between has_room satisfied_in
bundle_events = refl

held_1 : held_at_end 1 all ≡ []
unfolding world_after_entry world_of world_after_step stage_in stage_of stopped_in stopped_by shut_between has_room satisfied_in
held_1 = refl

held_3 : held_at_end 3 all ≡ []
unfolding world_after_entry world_of world_after_step stage_in stage_of stopped_in stopped_by shut_between has_room satisfied_in
held_3 = refl

held_4 : held_at_end 4 all ≡ []
unfolding world_after_entry world_of world_after_step stage_in stage_of stopped_in stopped_by shut_between has_room satisfied_in
held_4 = refl

held_5 : held_at_end 5 all ≡ []
unfolding world_after_entry world_of world_after_step stage_in stage_of stopped_in stopped_by shut_between has_room satisfied_in
held_5 = refl

held_6 : held_at_end 6 all ≡ []
unfolding world_after_entry world_of world_after_step stage_in stage_of stopped_in stopped_by shut_between has_room satisfied_in
held_6 = refl

bound_is : bound_at_end all ≡ 378
unfolding world_after_entry world_of world_after_step stage_in stage_of stopped_in stopped_by shut_between has_room satisfied_in
bound_is = refl

calm_is : calm_at_end all ≡ true
unfolding world_after_entry world_of world_after_step stage_in stage_of stopped_in stopped_by shut_between has_room satisfied_in
calm_is = refl
