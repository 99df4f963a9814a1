-- A worked example, as an independent model of the platform has it.
use Rattle.std.specs.Prelude.{◌≡◌, refl, ℕ, List, [], ◌∷◌, codes, true, false, Some, None, Ok, Err, pos, negsuc}
use Rattle.prop_map.specs.declared.value.Value.TheVariants.{Text, Whole, Flag, Texts, Wholes, Flags}
use Rattle.prop_map.specs.declared.reference_words.Cardinality.TheVariants.{ZeroOrOne, One, ZeroOrMore, OneOrMore}
use Rattle.prop_map.specs.declared.reference_words.Policy.TheVariants.{Static, Dynamic}
use Rattle.prop_map.specs.declared.reference_words.PolicyOption.TheVariants.{Reluctant, Greedy}
use Rattle.component_dto.specs.declared.description.Scope.TheVariants.{Singleton, Bundle as InBundleScope, Prototype}
use Rattle.component_dto.specs.declared.description.ConfigurationPolicy.TheVariants.{Optional, Require, Ignore}
use Rattle.bundle_doc.specs.declared.document.BundleDoc.{BundleDoc}
use Rattle.bundle_life.specs.declared.bundle.BundleEvent.{BundleEvent}
use Rattle.journal_examples.proofs.Trees.{tree_or_none}
use Rattle.callback_orders.specs.declared.callback.Callback.TheVariants.{Create, Bind, Updated, Unbind, Activate, Modified, Deactivate, Destroy}
use Rattle.callback_orders.specs.declared.callback.Outcome.TheVariants.{Done, Refused, NoMemory}
use Rattle.service_listeners.specs.declared.listener.ServiceEvent.{ServiceEvent}
use Rattle.scr_world.specs.declared.step.Step.TheVariants.{Command as Commanded, Begin, End, Drained, Got, Released}
use Rattle.scr_world.specs.declared.command.Command.TheVariants.{Install, Update, Start, Stop, Uninstall, Enable, Disable, Register, Unregister, SetProperties, Get, Unget, Listen, Unlisten, Configure, ConfigureFactory, Unconfigure}
use Rattle.scr_world.specs.declared.reply.CoreFault.TheVariants.{NoBundle, NoComponent, WrongState, Stopping, SameName, Cycle, BundlesFull, ComponentsFull, ServicesFull, ConfigurationsFull, ListenersFull, NoService, NotOwner, NotUsing, NoListener, NoConfiguration, BadPid, FactoryClash, ActivationFailed, ActivationNoMemory, JournalFull}
use Rattle.scr_world.specs.declared.reply.Reply.TheVariants.{Done as IsDone, Bundle as InBundle, Service as AsService, Uses as WithUses, Listener as AsListener}
use Rattle.scr_world.specs.Steps.{History}
use Rattle.scr_world.specs.declared.world.World.{World}
use Rattle.journal_examples.proofs.Meanings.{legal_means}
use Rattle.scr_world.specs.Legal.{IsLegal}
use Rattle.journal_examples.proofs.Tests.{worlds, legal, begins, states, quiet_ones, right_ones, asked, replies, bundle_events_at_end, events_at_end, held_at_end, found_at_end, wanted_at, bound_at_end, calm_at_end}
use Rattle.scr_world.specs.Worlds.{satisfied_in}
use Rattle.scr_world.specs.Room.{has_room}
use Rattle.scr_world.specs.Consequences.{stage_in, stage_of, stopped_in, stopped_by, shut_between}
use Rattle.scr_world.specs.Stepping.{world_after_step}
use Rattle.scr_world.specs.Lists.{world_after_entry, world_of}

abbrev doc1 : BundleDoc
doc1 = record { location = (codes "b0"); name = (codes "b0"); version = record { major = 0; minor = 0; micro = 0; qualifier = [] }; manifest = None; activator = None; descriptions = (record { name = (codes "c2"); scope = Prototype; implementation_class = (codes "demo.Relay"); default_enabled = true; immediate = false; service_interfaces = ((codes "J3") ∷ []); properties = (record { key = (codes "service.ranking"); value = (Whole (pos 1)) } ∷ []); references = (record { name = (codes "next"); interface_name = (codes "J0"); cardinality = ZeroOrOne; policy = Dynamic; policy_option = Greedy; target = None; updated = None } ∷ []); modified = None; configuration_policy = Optional; configuration_pids = ((codes "c2") ∷ []); implicit = true } ∷ record { name = (codes "c1"); scope = Prototype; implementation_class = (codes "demo.Relay"); default_enabled = true; immediate = false; service_interfaces = ((codes "J0") ∷ []); properties = (record { key = (codes "v"); value = (Whole (pos 2)) } ∷ []); references = (record { name = (codes "next"); interface_name = (codes "Y"); cardinality = One; policy = Dynamic; policy_option = Greedy; target = None; updated = (Some (codes "u")) } ∷ []); modified = (Some (codes "m")); configuration_policy = Optional; configuration_pids = ((codes "c1") ∷ []); implicit = true } ∷ record { name = (codes "c0"); scope = InBundleScope; implementation_class = (codes "K"); default_enabled = true; immediate = false; service_interfaces = ((codes "I0") ∷ (codes "J0") ∷ []); properties = (record { key = (codes "service.ranking"); value = (Whole (pos 0)) } ∷ record { key = (codes "text"); value = (Text (codes "Tc0")) } ∷ []); references = (record { name = (codes "r0"); interface_name = (codes "X"); cardinality = ZeroOrOne; policy = Dynamic; policy_option = Greedy; target = None; updated = None } ∷ []); modified = (Some (codes "m")); configuration_policy = Optional; configuration_pids = ((codes "p") ∷ []); implicit = true } ∷ []) }

abbrev doc2 : BundleDoc
doc2 = record { location = (codes "b1"); name = (codes "b1"); version = record { major = 0; minor = 0; micro = 0; qualifier = [] }; manifest = None; activator = None; descriptions = [] }

abbrev doc3 : BundleDoc
doc3 = record { location = (codes "b2"); name = (codes "b2"); version = record { major = 0; minor = 0; micro = 0; qualifier = [] }; manifest = None; activator = None; descriptions = [] }

abbrev doc4 : BundleDoc
doc4 = record { location = (codes "b3"); name = (codes "b3"); version = record { major = 0; minor = 0; micro = 0; qualifier = [] }; manifest = None; activator = None; descriptions = (record { name = (codes "c3"); scope = InBundleScope; implementation_class = (codes "K"); default_enabled = true; immediate = false; service_interfaces = ((codes "I3") ∷ []); properties = (record { key = (codes "v"); value = (Whole (pos 1)) } ∷ []); references = (record { name = (codes "r0"); interface_name = (codes "J0"); cardinality = One; policy = Dynamic; policy_option = Greedy; target = None; updated = None } ∷ []); modified = (Some (codes "m")); configuration_policy = Optional; configuration_pids = ((codes "c3") ∷ []); implicit = true } ∷ []) }

abbrev past0 : History
past0 = []

abbrev past1 : History
past1 = record { step = (Commanded (Install doc1)); closed = []; opened = []; stopped = [] } ∷ past0

abbrev past2 : History
past2 = record { step = (Commanded (Install doc2)); closed = []; opened = []; stopped = [] } ∷ past1

abbrev past3 : History
past3 = record { step = (Commanded (Install doc3)); closed = []; opened = []; stopped = [] } ∷ past2

abbrev past4 : History
past4 = record { step = (Commanded (Install doc4)); closed = []; opened = []; stopped = [] } ∷ past3

abbrev past5 : History
past5 = record { step = (Commanded (Start 1)); closed = []; opened = (record { configuration = 3; service = 1 } ∷ record { configuration = 1; service = 2 } ∷ []); stopped = [] } ∷ past4

abbrev past6 : History
past6 = record { step = (Commanded (Start 2)); closed = []; opened = []; stopped = [] } ∷ past5

abbrev past7 : History
past7 = record { step = (Commanded (Register 2 ((codes "Y") ∷ []) (record { key = (codes "v"); value = (Whole (pos 0)) } ∷ []))); closed = []; opened = (record { configuration = 2; service = 4 } ∷ []); stopped = [] } ∷ past6

abbrev past8 : History
past8 = record { step = (Commanded (Start 3)); closed = []; opened = []; stopped = [] } ∷ past7

abbrev past9 : History
past9 = record { step = (Commanded (Start 4)); closed = []; opened = (record { configuration = 4; service = 5 } ∷ []); stopped = [] } ∷ past8

abbrev past10 : History
past10 = record { step = (Commanded (Register 4 ((codes "X") ∷ []) (record { key = (codes "service.ranking"); value = (Whole (negsuc 0)) } ∷ record { key = (codes "v"); value = (Whole (pos 2)) } ∷ []))); closed = []; opened = []; stopped = [] } ∷ past9

abbrev past11 : History
past11 = record { step = (Commanded (SetProperties 2 3 (record { key = (codes "v"); value = (Whole (pos 1)) } ∷ []))); closed = []; opened = []; stopped = [] } ∷ past10

abbrev all : List World
all = worlds past11

is_legal : legal 4194304 past11 all ≡ true
unfolding world_after_entry world_of world_after_step stage_in stage_of stopped_in stopped_by shut_between has_room satisfied_in
is_legal = refl

stands_legal : IsLegal 4194304 past11
stands_legal = legal_means 4194304 past11 is_legal

which_begin : begins all ≡ (None ∷ None ∷ None ∷ None ∷ None ∷ None ∷ None ∷ None ∷ None ∷ None ∷ None ∷ None ∷ [])
unfolding world_after_entry world_of world_after_step stage_in stage_of stopped_in stopped_by shut_between has_room satisfied_in
which_begin = refl

which_states : states all ≡ (((1, 4) ∷ (2, 4) ∷ (3, 4) ∷ (4, 4) ∷ []) ∷ ((1, 4) ∷ (2, 4) ∷ (3, 4) ∷ (4, 4) ∷ []) ∷ ((1, 4) ∷ (2, 4) ∷ (3, 4) ∷ (4, 4) ∷ []) ∷ ((1, 4) ∷ (2, 4) ∷ (3, 4) ∷ []) ∷ ((1, 4) ∷ (2, 4) ∷ (3, 4) ∷ []) ∷ ((1, 4) ∷ (2, 2) ∷ (3, 4) ∷ []) ∷ ((1, 4) ∷ (2, 2) ∷ (3, 4) ∷ []) ∷ [] ∷ [] ∷ [] ∷ [] ∷ [] ∷ [])
unfolding world_after_entry world_of world_after_step stage_in stage_of stopped_in stopped_by shut_between has_room satisfied_in
which_states = refl

which_quiet : quiet_ones all ≡ (true ∷ true ∷ true ∷ true ∷ true ∷ true ∷ true ∷ true ∷ true ∷ true ∷ true ∷ true ∷ [])
unfolding world_after_entry world_of world_after_step stage_in stage_of stopped_in stopped_by shut_between has_room satisfied_in
which_quiet = refl

which_right : right_ones all ≡ (true ∷ true ∷ true ∷ true ∷ true ∷ true ∷ true ∷ true ∷ true ∷ true ∷ true ∷ true ∷ [])
unfolding world_after_entry world_of world_after_step stage_in stage_of stopped_in stopped_by shut_between has_room satisfied_in
which_right = refl

which_wanted : wanted_at all ≡ ([] ∷ [] ∷ [] ∷ [] ∷ [] ∷ [] ∷ [] ∷ [] ∷ [] ∷ [] ∷ [] ∷ [] ∷ [])
unfolding world_after_entry world_of world_after_step stage_in stage_of stopped_in stopped_by shut_between has_room satisfied_in
which_wanted = refl

which_replies : replies 4194304 all (asked 0 (Install doc1) ∷ asked 1 (Install doc2) ∷ asked 2 (Install doc3) ∷ asked 3 (Install doc4) ∷ asked 4 (Start 1) ∷ asked 5 (Start 2) ∷ asked 6 (Register 2 ((codes "Y") ∷ []) (record { key = (codes "v"); value = (Whole (pos 0)) } ∷ [])) ∷ asked 7 (Start 3) ∷ asked 8 (Start 4) ∷ asked 9 (Register 4 ((codes "X") ∷ []) (record { key = (codes "service.ranking"); value = (Whole (negsuc 0)) } ∷ record { key = (codes "v"); value = (Whole (pos 2)) } ∷ [])) ∷ asked 10 (SetProperties 2 3 (record { key = (codes "v"); value = (Whole (pos 1)) } ∷ [])) ∷ asked 11 (Unget 1 6) ∷ []) ≡ ((Ok (InBundle 1)) ∷ (Ok (InBundle 2)) ∷ (Ok (InBundle 3)) ∷ (Ok (InBundle 4)) ∷ (Ok IsDone) ∷ (Ok IsDone) ∷ (Ok (AsService 3)) ∷ (Ok IsDone) ∷ (Ok IsDone) ∷ (Ok (AsService 6)) ∷ (Ok IsDone) ∷ (Err NotUsing) ∷ [])
unfolding world_after_entry world_of world_after_step stage_in stage_of stopped_in stopped_by shut_between has_room satisfied_in
which_replies = refl

bundle_events : bundle_events_at_end all ≡ (record { value = 1; bundle = 1 } ∷ record { value = 1; bundle = 2 } ∷ record { value = 1; bundle = 3 } ∷ record { value = 1; bundle = 4 } ∷ record { value = 32; bundle = 1 } ∷ record { value = 128; bundle = 1 } ∷ record { value = 2; bundle = 1 } ∷ record { value = 32; bundle = 2 } ∷ record { value = 128; bundle = 2 } ∷ record { value = 2; bundle = 2 } ∷ record { value = 32; bundle = 3 } ∷ record { value = 128; bundle = 3 } ∷ record { value = 2; bundle = 3 } ∷ record { value = 32; bundle = 4 } ∷ record { value = 128; bundle = 4 } ∷ record { value = 2; bundle = 4 } ∷ [])
unfolding world_after_entry world_of world_after_step stage_in stage_of stopped_in stopped_by shut_between has_room satisfied_in
bundle_events = refl

held_1 : held_at_end 1 all ≡ []
unfolding world_after_entry world_of world_after_step stage_in stage_of stopped_in stopped_by shut_between has_room satisfied_in
held_1 = refl

held_2 : held_at_end 2 all ≡ []
unfolding world_after_entry world_of world_after_step stage_in stage_of stopped_in stopped_by shut_between has_room satisfied_in
held_2 = refl

held_3 : held_at_end 3 all ≡ []
unfolding world_after_entry world_of world_after_step stage_in stage_of stopped_in stopped_by shut_between has_room satisfied_in
held_3 = refl

held_4 : held_at_end 4 all ≡ []
unfolding world_after_entry world_of world_after_step stage_in stage_of stopped_in stopped_by shut_between has_room satisfied_in
held_4 = refl

bound_is : bound_at_end all ≡ 426
unfolding world_after_entry world_of world_after_step stage_in stage_of stopped_in stopped_by shut_between has_room satisfied_in
bound_is = refl

calm_is : calm_at_end all ≡ true
unfolding world_after_entry world_of world_after_step stage_in stage_of stopped_in stopped_by shut_between has_room satisfied_in
calm_is = refl
