-- A worked example, as an independent model of the platform has it.
use Rattle.std.specs.Prelude.{◌≡◌, refl, ℕ, List, [], ◌∷◌, codes, true, false, Some, None, Ok, Err, pos, negsuc}
use Rattle.prop_map.specs.declared.value.Value.TheVariants.{Text, Whole, Flag, Texts, Wholes, Flags}
use Rattle.prop_map.specs.declared.reference_words.Cardinality.TheVariants.{ZeroOrOne, One, ZeroOrMore, OneOrMore}
use Rattle.prop_map.specs.declared.reference_words.Policy.TheVariants.{Static, Dynamic}
use Rattle.prop_map.specs.declared.reference_words.PolicyOption.TheVariants.{Reluctant, Greedy}
use Rattle.component_dto.specs.declared.description.Scope.TheVariants.{Singleton, Bundle as InBundleScope, Prototype}
use Rattle.component_dto.specs.declared.description.ConfigurationPolicy.TheVariants.{Optional, Require, Ignore}
use Rattle.bundle_doc.specs.declared.document.BundleDoc.{BundleDoc}
use Rattle.bundle_life.specs.declared.bundle.BundleEvent.{BundleEvent}
use Rattle.journal_examples.proofs.Trees.{tree_or_none}
use Rattle.callback_orders.specs.declared.callback.Callback.TheVariants.{Create, Bind, Updated, Unbind, Activate, Modified, Deactivate, Destroy}
use Rattle.callback_orders.specs.declared.callback.Outcome.TheVariants.{Done, Refused, NoMemory}
use Rattle.service_listeners.specs.declared.listener.ServiceEvent.{ServiceEvent}
use Rattle.scr_world.specs.declared.step.Step.TheVariants.{Command as Commanded, Begin, End, Drained, Got, Released}
use Rattle.scr_world.specs.declared.command.Command.TheVariants.{Install, Update, Start, Stop, Uninstall, Enable, Disable, Register, Unregister, SetProperties, Get, Unget, Listen, Unlisten, Configure, ConfigureFactory, Unconfigure}
use Rattle.scr_world.specs.declared.reply.CoreFault.TheVariants.{NoBundle, NoComponent, WrongState, Stopping, SameName, Cycle, BundlesFull, ComponentsFull, ServicesFull, ConfigurationsFull, ListenersFull, NoService, NotOwner, NotUsing, NoListener, NoConfiguration, BadPid, FactoryClash, ActivationFailed, ActivationNoMemory, JournalFull}
use Rattle.scr_world.specs.declared.reply.Reply.TheVariants.{Done as IsDone, Bundle as InBundle, Service as AsService, Uses as WithUses, Listener as AsListener}
use Rattle.scr_world.specs.Steps.{History}
use Rattle.scr_world.specs.declared.world.World.{World}
use Rattle.journal_examples.proofs.Meanings.{legal_means}
use Rattle.scr_world.specs.Legal.{IsLegal}
use Rattle.journal_examples.proofs.Tests.{worlds, legal, begins, states, quiet_ones, right_ones, asked, replies, bundle_events_at_end, events_at_end, held_at_end, found_at_end, wanted_at, bound_at_end, calm_at_end}
use Rattle.scr_world.specs.Worlds.{satisfied_in}
use Rattle.scr_world.specs.Room.{has_room}
use Rattle.scr_world.specs.Consequences.{stage_in, stage_of, stopped_in, stopped_by, shut_between}
use Rattle.scr_world.specs.Stepping.{world_after_step}
use Rattle.scr_world.specs.Lists.{world_after_entry, world_of}

abbrev doc1 : BundleDoc
doc1 = record { location = (codes "b0"); name = (codes "b0"); version = record { major = 0; minor = 0; micro = 0; qualifier = [] }; manifest = None; activator = None; descriptions = (record { name = (codes "c5"); scope = Singleton; implementation_class = (codes "demo.Relay"); default_enabled = true; immediate = false; service_interfaces = ((codes "I4") ∷ (codes "J4") ∷ []); properties = (record { key = (codes "v"); value = (Whole (pos 0)) } ∷ []); references = (record { name = (codes "next"); interface_name = (codes "I2"); cardinality = OneOrMore; policy = Static; policy_option = Reluctant; target = None; updated = (Some (codes "u")) } ∷ []); modified = None; configuration_policy = Optional; configuration_pids = ((codes "c5") ∷ []); implicit = true } ∷ record { name = (codes "c4"); scope = Singleton; implementation_class = (codes "demo.Echo"); default_enabled = true; immediate = true; service_interfaces = ((codes "J4") ∷ []); properties = (record { key = (codes "r1.cardinality.minimum"); value = (Whole (pos 0)) } ∷ []); references = (record { name = (codes "r0"); interface_name = (codes "J1"); cardinality = One; policy = Static; policy_option = Greedy; target = (Some (codes "(service.bundleid=1)")); updated = None } ∷ record { name = (codes "r1"); interface_name = (codes "I2"); cardinality = ZeroOrOne; policy = Dynamic; policy_option = Greedy; target = (Some (codes "(v=*)")); updated = (Some (codes "u")) } ∷ record { name = (codes "r2"); interface_name = (codes "I2"); cardinality = ZeroOrMore; policy = Static; policy_option = Greedy; target = (Some (codes "(v=*)")); updated = None } ∷ []); modified = None; configuration_policy = Require; configuration_pids = ((codes "c4") ∷ []); implicit = true } ∷ []) }

abbrev doc2 : BundleDoc
doc2 = record { location = (codes "b1"); name = (codes "b1"); version = record { major = 0; minor = 0; micro = 0; qualifier = [] }; manifest = None; activator = None; descriptions = (record { name = (codes "c2"); scope = Singleton; implementation_class = (codes "demo.Relay"); default_enabled = true; immediate = true; service_interfaces = ((codes "I1") ∷ (codes "J1") ∷ []); properties = (record { key = (codes "service.ranking"); value = (Whole (negsuc 0)) } ∷ record { key = (codes "v"); value = (Whole (pos 2)) } ∷ []); references = []; modified = None; configuration_policy = Optional; configuration_pids = ((codes "c2") ∷ []); implicit = true } ∷ record { name = (codes "c0"); scope = Singleton; implementation_class = (codes "demo.Relay"); default_enabled = true; immediate = true; service_interfaces = []; properties = (record { key = (codes ".p"); value = (Whole (pos 0)) } ∷ record { key = (codes "refuse"); value = (Text (codes "create")) } ∷ []); references = []; modified = (Some (codes "m")); configuration_policy = Ignore; configuration_pids = ((codes "c0") ∷ (codes "q") ∷ []); implicit = true } ∷ record { name = (codes "c1"); scope = Singleton; implementation_class = (codes "demo.Echo"); default_enabled = true; immediate = false; service_interfaces = ((codes "I0") ∷ (codes "J0") ∷ []); properties = (record { key = (codes "r0.cardinality.minimum"); value = (Whole (pos 1)) } ∷ record { key = (codes "service.ranking"); value = (Whole (negsuc 0)) } ∷ record { key = (codes "v"); value = (Whole (pos 1)) } ∷ []); references = (record { name = (codes "r0"); interface_name = (codes "X"); cardinality = ZeroOrMore; policy = Static; policy_option = Greedy; target = (Some (codes "(component.id=2)")); updated = None } ∷ []); modified = None; configuration_policy = Optional; configuration_pids = ((codes "q") ∷ []); implicit = true } ∷ record { name = (codes "c3"); scope = Singleton; implementation_class = (codes "K"); default_enabled = true; immediate = false; service_interfaces = ((codes "I2") ∷ (codes "J2") ∷ []); properties = (record { key = (codes "v"); value = (Whole (pos 0)) } ∷ []); references = (record { name = (codes "r0"); interface_name = (codes "I0"); cardinality = ZeroOrOne; policy = Static; policy_option = Greedy; target = (Some (codes "(!(v=1))")); updated = (Some (codes "u")) } ∷ record { name = (codes "r1"); interface_name = (codes "J0"); cardinality = One; policy = Static; policy_option = Greedy; target = None; updated = (Some (codes "u")) } ∷ record { name = (codes "r2"); interface_name = (codes "J0"); cardinality = One; policy = Static; policy_option = Greedy; target = None; updated = (Some (codes "u")) } ∷ []); modified = None; configuration_policy = Optional; configuration_pids = ((codes "q") ∷ []); implicit = true } ∷ []) }

abbrev past0 : History
past0 = []

abbrev past1 : History
past1 = record { step = (Commanded (Install doc1)); closed = []; opened = []; stopped = [] } ∷ past0

abbrev past2 : History
past2 = record { step = (Commanded (Install doc2)); closed = []; opened = []; stopped = [] } ∷ past1

abbrev past3 : History
past3 = record { step = (Commanded (Start 1)); closed = []; opened = []; stopped = [] } ∷ past2

abbrev past4 : History
past4 = record { step = (Commanded (Register 1 ((codes "Y") ∷ []) [])); closed = []; opened = []; stopped = [] } ∷ past3

abbrev past5 : History
past5 = record { step = (Commanded (Start 2)); closed = []; opened = (record { configuration = 3; service = 2 } ∷ record { configuration = 4; service = 0 } ∷ []); stopped = [] } ∷ past4

abbrev past6 : History
past6 = record { step = (Begin 1 1 3 0 Create []); closed = []; opened = []; stopped = [] } ∷ past5

abbrev past7 : History
past7 = record { step = (End 1 Done); closed = []; opened = []; stopped = [] } ∷ past6

abbrev past8 : History
past8 = record { step = (Begin 2 1 3 0 Activate []); closed = []; opened = []; stopped = [] } ∷ past7

abbrev past9 : History
past9 = record { step = (End 2 Done); closed = []; opened = []; stopped = [] } ∷ past8

abbrev past10 : History
past10 = record { step = (Begin 3 2 4 0 Create []); closed = []; opened = []; stopped = [] } ∷ past9

abbrev past11 : History
past11 = record { step = (End 3 Refused); closed = (4 ∷ []); opened = []; stopped = [] } ∷ past10

abbrev past12 : History
past12 = record { step = (Commanded (Register 2 ((codes "X") ∷ []) [])); closed = []; opened = []; stopped = [] } ∷ past11

abbrev past13 : History
past13 = record { step = (Commanded (Unregister 2 3)); closed = []; opened = []; stopped = [] } ∷ past12

abbrev past14 : History
past14 = record { step = (Commanded (SetProperties 1 1 [])); closed = []; opened = []; stopped = [] } ∷ past13

abbrev past15 : History
past15 = record { step = (Commanded (SetProperties 1 1 (record { key = (codes "service.ranking"); value = (Whole (pos 3)) } ∷ []))); closed = []; opened = []; stopped = [] } ∷ past14

abbrev past16 : History
past16 = record { step = (Commanded (Register 1 ((codes "I0") ∷ []) (record { key = (codes "service.ranking"); value = (Whole (pos 1)) } ∷ []))); closed = []; opened = []; stopped = [] } ∷ past15

abbrev past17 : History
past17 = record { step = (Commanded (ConfigureFactory (codes "c4") (codes "a") (record { key = (codes "r1.cardinality.minimum"); value = (Whole (pos 3)) } ∷ record { key = (codes "r1.target"); value = (Text (codes "(v=1)")) } ∷ record { key = (codes "service.ranking"); value = (Whole (negsuc 0)) } ∷ []))); closed = []; opened = []; stopped = [] } ∷ past16

abbrev past18 : History
past18 = record { step = (Commanded (Unregister 1 1)); closed = []; opened = []; stopped = [] } ∷ past17

abbrev past19 : History
past19 = record { step = (Commanded (Register 1 ((codes "I2") ∷ []) (record { key = (codes "v"); value = (Whole (pos 2)) } ∷ []))); closed = []; opened = (record { configuration = 1; service = 6 } ∷ []); stopped = [] } ∷ past18

abbrev past20 : History
past20 = record { step = (Got 2 4); closed = []; opened = []; stopped = [] } ∷ past19

abbrev past21 : History
past21 = record { step = (Released 19); closed = []; opened = []; stopped = [] } ∷ past20

abbrev past22 : History
past22 = record { step = (Commanded (Register 1 ((codes "I0") ∷ []) (record { key = (codes "service.ranking"); value = (Whole (negsuc 0)) } ∷ record { key = (codes "v"); value = (Whole (pos 1)) } ∷ []))); closed = []; opened = []; stopped = [] } ∷ past21

abbrev past23 : History
past23 = record { step = (Commanded (Register 2 ((codes "I0") ∷ []) (record { key = (codes "service.ranking"); value = (Whole (negsuc 0)) } ∷ record { key = (codes "v"); value = (Whole (pos 0)) } ∷ []))); closed = []; opened = []; stopped = [] } ∷ past22

abbrev past24 : History
past24 = record { step = (Got 2 6); closed = []; opened = []; stopped = [] } ∷ past23

abbrev past25 : History
past25 = record { step = (Begin 4 3 1 0 Create (record { reference = 0; services = (5 ∷ []) } ∷ [])); closed = []; opened = []; stopped = [] } ∷ past24

abbrev past26 : History
past26 = record { step = (End 4 Done); closed = []; opened = []; stopped = [] } ∷ past25

abbrev past27 : History
past27 = record { step = (Begin 5 3 1 0 (Bind (codes "next") 5) []); closed = []; opened = []; stopped = [] } ∷ past26

abbrev past28 : History
past28 = record { step = (End 5 Done); closed = []; opened = []; stopped = [] } ∷ past27

abbrev past29 : History
past29 = record { step = (Begin 6 3 1 0 Activate []); closed = []; opened = []; stopped = [] } ∷ past28

abbrev past30 : History
past30 = record { step = (End 6 Done); closed = []; opened = []; stopped = [] } ∷ past29

abbrev past31 : History
past31 = record { step = (Released 23); closed = []; opened = []; stopped = [] } ∷ past30

abbrev past32 : History
past32 = record { step = (Got 2 7); closed = []; opened = []; stopped = [] } ∷ past31

abbrev past33 : History
past33 = record { step = (Released 31); closed = []; opened = []; stopped = [] } ∷ past32

abbrev past34 : History
past34 = record { step = (Got 2 7); closed = []; opened = []; stopped = [] } ∷ past33

abbrev past35 : History
past35 = record { step = (Released 33); closed = []; opened = []; stopped = [] } ∷ past34

abbrev past36 : History
past36 = record { step = (Commanded (Register 1 ((codes "I1") ∷ []) (record { key = (codes "v"); value = (Whole (pos 2)) } ∷ []))); closed = []; opened = []; stopped = [] } ∷ past35

abbrev all : List World
all = worlds past36

is_legal : legal 4194304 past36 all ≡ true
unfolding world_after_entry world_of world_after_step stage_in stage_of stopped_in stopped_by shut_between has_room satisfied_in
is_legal = refl

stands_legal : IsLegal 4194304 past36
stands_legal = legal_means 4194304 past36 is_legal

which_begin : begins all ≡ (None ∷ None ∷ None ∷ None ∷ None ∷ None ∷ None ∷ None ∷ (Some (Begin 6 3 1 0 Activate [])) ∷ None ∷ (Some (Begin 5 3 1 0 (Bind (codes "next") 5) [])) ∷ None ∷ (Some (Begin 4 3 1 0 Create (record { reference = 0; services = (5 ∷ []) } ∷ []))) ∷ None ∷ None ∷ None ∷ None ∷ None ∷ None ∷ None ∷ None ∷ None ∷ None ∷ None ∷ None ∷ None ∷ None ∷ (Some (Begin 3 2 4 0 Create [])) ∷ (Some (Begin 3 2 4 0 Create [])) ∷ (Some (Begin 2 1 3 0 Activate [])) ∷ (Some (Begin 2 2 4 0 Create [])) ∷ (Some (Begin 1 1 3 0 Create [])) ∷ None ∷ None ∷ None ∷ None ∷ None ∷ [])
unfolding world_after_entry world_of world_after_step stage_in stage_of stopped_in stopped_by shut_between has_room satisfied_in
which_begin = refl

which_states : states all ≡ (((1, 8) ∷ (3, 8) ∷ (4, 16) ∷ (5, 2) ∷ (6, 2) ∷ (7, 2) ∷ []) ∷ ((1, 8) ∷ (3, 8) ∷ (4, 16) ∷ (5, 2) ∷ (6, 2) ∷ (7, 2) ∷ []) ∷ ((1, 8) ∷ (3, 8) ∷ (4, 16) ∷ (5, 2) ∷ (6, 2) ∷ (7, 2) ∷ []) ∷ ((1, 8) ∷ (3, 8) ∷ (4, 16) ∷ (5, 2) ∷ (6, 2) ∷ (7, 2) ∷ []) ∷ ((1, 8) ∷ (3, 8) ∷ (4, 16) ∷ (5, 2) ∷ (6, 2) ∷ (7, 2) ∷ []) ∷ ((1, 8) ∷ (3, 8) ∷ (4, 16) ∷ (5, 2) ∷ (6, 2) ∷ (7, 2) ∷ []) ∷ ((1, 8) ∷ (3, 8) ∷ (4, 16) ∷ (5, 2) ∷ (6, 2) ∷ (7, 2) ∷ []) ∷ ((1, 4) ∷ (3, 8) ∷ (4, 16) ∷ (5, 2) ∷ (6, 2) ∷ (7, 2) ∷ []) ∷ ((1, 4) ∷ (3, 8) ∷ (4, 16) ∷ (5, 2) ∷ (6, 2) ∷ (7, 2) ∷ []) ∷ ((1, 4) ∷ (3, 8) ∷ (4, 16) ∷ (5, 2) ∷ (6, 2) ∷ (7, 2) ∷ []) ∷ ((1, 4) ∷ (3, 8) ∷ (4, 16) ∷ (5, 2) ∷ (6, 2) ∷ (7, 2) ∷ []) ∷ ((1, 4) ∷ (3, 8) ∷ (4, 16) ∷ (5, 2) ∷ (6, 2) ∷ (7, 2) ∷ []) ∷ ((1, 4) ∷ (3, 8) ∷ (4, 16) ∷ (5, 2) ∷ (6, 2) ∷ (7, 2) ∷ []) ∷ ((1, 4) ∷ (3, 8) ∷ (4, 16) ∷ (5, 2) ∷ (6, 2) ∷ (7, 2) ∷ []) ∷ ((1, 4) ∷ (3, 8) ∷ (4, 16) ∷ (5, 2) ∷ (6, 2) ∷ (7, 2) ∷ []) ∷ ((1, 4) ∷ (3, 8) ∷ (4, 16) ∷ (5, 2) ∷ (6, 2) ∷ (7, 2) ∷ []) ∷ ((1, 4) ∷ (3, 8) ∷ (4, 16) ∷ (5, 2) ∷ (6, 2) ∷ (7, 2) ∷ []) ∷ ((1, 4) ∷ (3, 8) ∷ (4, 16) ∷ (5, 2) ∷ (6, 2) ∷ (7, 2) ∷ []) ∷ ((1, 2) ∷ (3, 8) ∷ (4, 16) ∷ (5, 2) ∷ (6, 2) ∷ (7, 2) ∷ []) ∷ ((1, 2) ∷ (3, 8) ∷ (4, 16) ∷ (5, 2) ∷ (6, 2) ∷ (7, 2) ∷ []) ∷ ((1, 2) ∷ (2, 1) ∷ (3, 8) ∷ (4, 16) ∷ (5, 2) ∷ (6, 2) ∷ []) ∷ ((1, 2) ∷ (2, 1) ∷ (3, 8) ∷ (4, 16) ∷ (5, 2) ∷ (6, 2) ∷ []) ∷ ((1, 2) ∷ (2, 1) ∷ (3, 8) ∷ (4, 16) ∷ (5, 2) ∷ (6, 2) ∷ []) ∷ ((1, 2) ∷ (2, 1) ∷ (3, 8) ∷ (4, 16) ∷ (5, 2) ∷ (6, 2) ∷ []) ∷ ((1, 2) ∷ (2, 1) ∷ (3, 8) ∷ (4, 16) ∷ (5, 2) ∷ (6, 2) ∷ []) ∷ ((1, 2) ∷ (2, 1) ∷ (3, 8) ∷ (4, 16) ∷ (5, 2) ∷ (6, 2) ∷ []) ∷ ((1, 2) ∷ (2, 1) ∷ (3, 8) ∷ (4, 4) ∷ (5, 2) ∷ (6, 2) ∷ []) ∷ ((1, 2) ∷ (2, 1) ∷ (3, 8) ∷ (4, 4) ∷ (5, 2) ∷ (6, 2) ∷ []) ∷ ((1, 2) ∷ (2, 1) ∷ (3, 4) ∷ (4, 4) ∷ (5, 2) ∷ (6, 2) ∷ []) ∷ ((1, 2) ∷ (2, 1) ∷ (3, 4) ∷ (4, 4) ∷ (5, 2) ∷ (6, 2) ∷ []) ∷ ((1, 2) ∷ (2, 1) ∷ (3, 4) ∷ (4, 4) ∷ (5, 2) ∷ (6, 2) ∷ []) ∷ ((1, 2) ∷ (2, 1) ∷ (3, 4) ∷ (4, 4) ∷ (5, 2) ∷ (6, 2) ∷ []) ∷ ((1, 2) ∷ (2, 1) ∷ []) ∷ ((1, 2) ∷ (2, 1) ∷ []) ∷ [] ∷ [] ∷ [] ∷ [])
unfolding world_after_entry world_of world_after_step stage_in stage_of stopped_in stopped_by shut_between has_room satisfied_in
which_states = refl

which_quiet : quiet_ones all ≡ (true ∷ true ∷ true ∷ true ∷ true ∷ true ∷ true ∷ false ∷ false ∷ false ∷ false ∷ false ∷ false ∷ true ∷ true ∷ true ∷ true ∷ true ∷ true ∷ true ∷ true ∷ true ∷ true ∷ true ∷ true ∷ true ∷ false ∷ false ∷ false ∷ false ∷ false ∷ false ∷ true ∷ true ∷ true ∷ true ∷ true ∷ [])
unfolding world_after_entry world_of world_after_step stage_in stage_of stopped_in stopped_by shut_between has_room satisfied_in
which_quiet = refl

which_right : right_ones all ≡ (true ∷ true ∷ true ∷ true ∷ true ∷ true ∷ true ∷ false ∷ false ∷ false ∷ false ∷ false ∷ false ∷ true ∷ true ∷ true ∷ true ∷ true ∷ true ∷ true ∷ true ∷ true ∷ true ∷ true ∷ true ∷ true ∷ false ∷ false ∷ false ∷ false ∷ false ∷ false ∷ true ∷ true ∷ true ∷ true ∷ true ∷ [])
unfolding world_after_entry world_of world_after_step stage_in stage_of stopped_in stopped_by shut_between has_room satisfied_in
which_right = refl

which_wanted : wanted_at all ≡ ((record { configuration = 3; consumer = 0 } ∷ []) ∷ (record { configuration = 3; consumer = 0 } ∷ []) ∷ (record { configuration = 3; consumer = 0 } ∷ []) ∷ (record { configuration = 3; consumer = 0 } ∷ []) ∷ (record { configuration = 3; consumer = 0 } ∷ []) ∷ (record { configuration = 3; consumer = 0 } ∷ []) ∷ (record { configuration = 1; consumer = 0 } ∷ record { configuration = 3; consumer = 0 } ∷ []) ∷ (record { configuration = 1; consumer = 0 } ∷ record { configuration = 3; consumer = 0 } ∷ []) ∷ (record { configuration = 1; consumer = 0 } ∷ record { configuration = 3; consumer = 0 } ∷ []) ∷ (record { configuration = 1; consumer = 0 } ∷ record { configuration = 3; consumer = 0 } ∷ []) ∷ (record { configuration = 1; consumer = 0 } ∷ record { configuration = 3; consumer = 0 } ∷ []) ∷ (record { configuration = 1; consumer = 0 } ∷ record { configuration = 3; consumer = 0 } ∷ []) ∷ (record { configuration = 1; consumer = 0 } ∷ record { configuration = 3; consumer = 0 } ∷ []) ∷ (record { configuration = 3; consumer = 0 } ∷ []) ∷ (record { configuration = 3; consumer = 0 } ∷ []) ∷ (record { configuration = 3; consumer = 0 } ∷ []) ∷ (record { configuration = 3; consumer = 0 } ∷ []) ∷ (record { configuration = 3; consumer = 0 } ∷ []) ∷ (record { configuration = 3; consumer = 0 } ∷ []) ∷ (record { configuration = 3; consumer = 0 } ∷ []) ∷ (record { configuration = 3; consumer = 0 } ∷ []) ∷ (record { configuration = 3; consumer = 0 } ∷ []) ∷ (record { configuration = 3; consumer = 0 } ∷ []) ∷ (record { configuration = 3; consumer = 0 } ∷ []) ∷ (record { configuration = 3; consumer = 0 } ∷ []) ∷ (record { configuration = 3; consumer = 0 } ∷ []) ∷ (record { configuration = 3; consumer = 0 } ∷ record { configuration = 4; consumer = 0 } ∷ []) ∷ (record { configuration = 3; consumer = 0 } ∷ record { configuration = 4; consumer = 0 } ∷ []) ∷ (record { configuration = 3; consumer = 0 } ∷ record { configuration = 4; consumer = 0 } ∷ []) ∷ (record { configuration = 3; consumer = 0 } ∷ record { configuration = 4; consumer = 0 } ∷ []) ∷ (record { configuration = 3; consumer = 0 } ∷ record { configuration = 4; consumer = 0 } ∷ []) ∷ (record { configuration = 3; consumer = 0 } ∷ record { configuration = 4; consumer = 0 } ∷ []) ∷ [] ∷ [] ∷ [] ∷ [] ∷ [] ∷ [])
unfolding world_after_entry world_of world_after_step stage_in stage_of stopped_in stopped_by shut_between has_room satisfied_in
which_wanted = refl

which_replies : replies 4194304 all (asked 0 (Install doc1) ∷ asked 1 (Install doc2) ∷ asked 2 (Start 1) ∷ asked 3 (Register 1 ((codes "Y") ∷ []) []) ∷ asked 4 (Start 2) ∷ asked 11 (Register 2 ((codes "X") ∷ []) []) ∷ asked 12 (Unregister 2 3) ∷ asked 13 (SetProperties 1 1 []) ∷ asked 14 (SetProperties 1 1 (record { key = (codes "service.ranking"); value = (Whole (pos 3)) } ∷ [])) ∷ asked 15 (Register 1 ((codes "I0") ∷ []) (record { key = (codes "service.ranking"); value = (Whole (pos 1)) } ∷ [])) ∷ asked 16 (Unconfigure (codes "c2")) ∷ asked 16 (ConfigureFactory (codes "c4") (codes "a") (record { key = (codes "r1.cardinality.minimum"); value = (Whole (pos 3)) } ∷ record { key = (codes "r1.target"); value = (Text (codes "(v=1)")) } ∷ record { key = (codes "service.ranking"); value = (Whole (negsuc 0)) } ∷ [])) ∷ asked 17 (Unregister 1 1) ∷ asked 18 (Register 1 ((codes "I2") ∷ []) (record { key = (codes "v"); value = (Whole (pos 2)) } ∷ [])) ∷ asked 21 (Register 1 ((codes "I0") ∷ []) (record { key = (codes "service.ranking"); value = (Whole (negsuc 0)) } ∷ record { key = (codes "v"); value = (Whole (pos 1)) } ∷ [])) ∷ asked 22 (Register 2 ((codes "I0") ∷ []) (record { key = (codes "service.ranking"); value = (Whole (negsuc 0)) } ∷ record { key = (codes "v"); value = (Whole (pos 0)) } ∷ [])) ∷ asked 35 (Register 1 ((codes "I1") ∷ []) (record { key = (codes "v"); value = (Whole (pos 2)) } ∷ [])) ∷ []) ≡ ((Ok (InBundle 1)) ∷ (Ok (InBundle 2)) ∷ (Ok IsDone) ∷ (Ok (AsService 1)) ∷ (Ok IsDone) ∷ (Ok (AsService 3)) ∷ (Ok IsDone) ∷ (Ok IsDone) ∷ (Ok IsDone) ∷ (Ok (AsService 4)) ∷ (Err NoConfiguration) ∷ (Ok IsDone) ∷ (Ok IsDone) ∷ (Ok (AsService 5)) ∷ (Ok (AsService 7)) ∷ (Ok (AsService 8)) ∷ (Ok (AsService 9)) ∷ [])
unfolding world_after_entry world_of world_after_step stage_in stage_of stopped_in stopped_by shut_between has_room satisfied_in
which_replies = refl

bundle_events : bundle_events_at_end all ≡ (record { value = 1; bundle = 1 } ∷ record { value = 1; bundle = 2 } ∷ record { value = 32; bundle = 1 } ∷ record { value = 128; bundle = 1 } ∷ record { value = 2; bundle = 1 } ∷ record { value = 32; bundle = 2 } ∷ record { value = 128; bundle = 2 } ∷ record { value = 2; bundle = 2 } ∷ [])
unfolding world_after_entry world_of world_after_step stage_in stage_of stopped_in stopped_by shut_between has_room satisfied_in
bundle_events = refl

held_1 : held_at_end 1 all ≡ (record { instance = 3; reference = (codes "next"); service = 5 } ∷ [])
unfolding world_after_entry world_of world_after_step stage_in stage_of stopped_in stopped_by shut_between has_room satisfied_in
held_1 = refl

held_3 : held_at_end 3 all ≡ []
unfolding world_after_entry world_of world_after_step stage_in stage_of stopped_in stopped_by shut_between has_room satisfied_in
held_3 = refl

held_4 : held_at_end 4 all ≡ []
unfolding world_after_entry world_of world_after_step stage_in stage_of stopped_in stopped_by shut_between has_room satisfied_in
held_4 = refl

held_5 : held_at_end 5 all ≡ []
unfolding world_after_entry world_of world_after_step stage_in stage_of stopped_in stopped_by shut_between has_room satisfied_in
held_5 = refl

held_6 : held_at_end 6 all ≡ []
unfolding world_after_entry world_of world_after_step stage_in stage_of stopped_in stopped_by shut_between has_room satisfied_in
held_6 = refl

held_7 : held_at_end 7 all ≡ []
unfolding world_after_entry world_of world_after_step stage_in stage_of stopped_in stopped_by shut_between has_room satisfied_in
held_7 = refl

bound_is : bound_at_end all ≡ 198
unfolding world_after_entry world_of world_after_step stage_in stage_of stopped_in stopped_by shut_between has_room satisfied_in
bound_is = refl

calm_is : calm_at_end all ≡ false
unfolding world_after_entry world_of world_after_step stage_in stage_of stopped_in stopped_by shut_between has_room satisfied_in
calm_is = refl
