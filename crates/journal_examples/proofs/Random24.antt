-- A worked example, as an independent model of the platform has it.
use Rattle.std.specs.Prelude.{◌≡◌, refl, ℕ, List, [], ◌∷◌, codes, true, false, Some, None, Ok, Err, pos, negsuc}
use Rattle.prop_map.specs.declared.value.Value.TheVariants.{Text, Whole, Flag, Texts, Wholes, Flags}
use Rattle.prop_map.specs.declared.reference_words.Cardinality.TheVariants.{ZeroOrOne, One, ZeroOrMore, OneOrMore}
use Rattle.prop_map.specs.declared.reference_words.Policy.TheVariants.{Static, Dynamic}
use Rattle.prop_map.specs.declared.reference_words.PolicyOption.TheVariants.{Reluctant, Greedy}
use Rattle.component_dto.specs.declared.description.Scope.TheVariants.{Singleton, Bundle as InBundleScope, Prototype}
use Rattle.component_dto.specs.declared.description.ConfigurationPolicy.TheVariants.{Optional, Require, Ignore}
use Rattle.bundle_doc.specs.declared.document.BundleDoc.{BundleDoc}
use Rattle.bundle_life.specs.declared.bundle.BundleEvent.{BundleEvent}
use Rattle.journal_examples.proofs.Trees.{tree_or_none}
use Rattle.callback_orders.specs.declared.callback.Callback.TheVariants.{Create, Bind, Updated, Unbind, Activate, Modified, Deactivate, Destroy}
use Rattle.callback_orders.specs.declared.callback.Outcome.TheVariants.{Done, Refused, NoMemory}
use Rattle.service_listeners.specs.declared.listener.ServiceEvent.{ServiceEvent}
use Rattle.scr_world.specs.declared.step.Step.TheVariants.{Command as Commanded, Begin, End, Drained, Got, Released}
use Rattle.scr_world.specs.declared.command.Command.TheVariants.{Install, Update, Start, Stop, Uninstall, Enable, Disable, Register, Unregister, SetProperties, Get, Unget, Listen, Unlisten, Configure, ConfigureFactory, Unconfigure}
use Rattle.scr_world.specs.declared.reply.CoreFault.TheVariants.{NoBundle, NoComponent, WrongState, Stopping, SameName, Cycle, BundlesFull, ComponentsFull, ServicesFull, ConfigurationsFull, ListenersFull, NoService, NotOwner, NotUsing, NoListener, NoConfiguration, BadPid, FactoryClash, ActivationFailed, ActivationNoMemory, JournalFull}
use Rattle.scr_world.specs.declared.reply.Reply.TheVariants.{Done as IsDone, Bundle as InBundle, Service as AsService, Uses as WithUses, Listener as AsListener}
use Rattle.scr_world.specs.Steps.{History}
use Rattle.scr_world.specs.declared.world.World.{World}
use Rattle.journal_examples.proofs.Meanings.{legal_means}
use Rattle.scr_world.specs.Legal.{IsLegal}
use Rattle.journal_examples.proofs.Tests.{worlds, legal, begins, states, quiet_ones, right_ones, asked, replies, bundle_events_at_end, events_at_end, held_at_end, found_at_end, wanted_at, bound_at_end, calm_at_end}
use Rattle.scr_world.specs.Worlds.{satisfied_in}
use Rattle.scr_world.specs.Room.{has_room}
use Rattle.scr_world.specs.Consequences.{stage_in, stage_of, stopped_in, stopped_by, shut_between}
use Rattle.scr_world.specs.Stepping.{world_after_step}
use Rattle.scr_world.specs.Lists.{world_after_entry, world_of}

abbrev doc1 : BundleDoc
doc1 = record { location = (codes "b0"); name = (codes "b0"); version = record { major = 0; minor = 0; micro = 0; qualifier = [] }; manifest = None; activator = None; descriptions = (record { name = (codes "c2"); scope = Singleton; implementation_class = (codes "demo.Relay"); default_enabled = true; immediate = true; service_interfaces = ((codes "J0") ∷ []); properties = []; references = (record { name = (codes "next"); interface_name = (codes "X"); cardinality = OneOrMore; policy = Dynamic; policy_option = Reluctant; target = None; updated = None } ∷ []); modified = None; configuration_policy = Optional; configuration_pids = ((codes "q") ∷ (codes "c2") ∷ []); implicit = true } ∷ []) }

abbrev doc2 : BundleDoc
doc2 = record { location = (codes "b1"); name = (codes "b1"); version = record { major = 0; minor = 0; micro = 0; qualifier = [] }; manifest = None; activator = None; descriptions = (record { name = (codes "c0"); scope = Singleton; implementation_class = (codes "demo.Relay"); default_enabled = true; immediate = true; service_interfaces = []; properties = (record { key = (codes "service.ranking"); value = (Whole (negsuc 0)) } ∷ record { key = (codes "v"); value = (Whole (pos 2)) } ∷ []); references = (record { name = (codes "next"); interface_name = (codes "Y"); cardinality = One; policy = Static; policy_option = Reluctant; target = None; updated = None } ∷ []); modified = (Some (codes "m")); configuration_policy = Require; configuration_pids = ((codes "q") ∷ []); implicit = true } ∷ record { name = (codes "c4"); scope = Singleton; implementation_class = (codes "demo.Echo"); default_enabled = true; immediate = false; service_interfaces = ((codes "I3") ∷ (codes "J3") ∷ []); properties = (record { key = (codes "v"); value = (Whole (pos 0)) } ∷ []); references = []; modified = (Some (codes "m")); configuration_policy = Optional; configuration_pids = ((codes "c4") ∷ (codes "q") ∷ (codes "p") ∷ []); implicit = true } ∷ []) }

abbrev doc3 : BundleDoc
doc3 = record { location = (codes "b2"); name = (codes "b2"); version = record { major = 0; minor = 0; micro = 0; qualifier = [] }; manifest = None; activator = None; descriptions = (record { name = (codes "c1"); scope = InBundleScope; implementation_class = (codes "K"); default_enabled = true; immediate = false; service_interfaces = ((codes "I0") ∷ []); properties = (record { key = (codes "v"); value = (Whole (pos 0)) } ∷ []); references = []; modified = None; configuration_policy = Optional; configuration_pids = ((codes "c1") ∷ []); implicit = true } ∷ []) }

abbrev doc4 : BundleDoc
doc4 = record { location = (codes "b3"); name = (codes "b3"); version = record { major = 0; minor = 0; micro = 0; qualifier = [] }; manifest = None; activator = None; descriptions = (record { name = (codes "c3"); scope = Singleton; implementation_class = (codes "K"); default_enabled = true; immediate = true; service_interfaces = ((codes "I3") ∷ (codes "J3") ∷ []); properties = (record { key = (codes "r1.cardinality.minimum"); value = (Whole (pos 0)) } ∷ record { key = (codes "v"); value = (Whole (pos 1)) } ∷ []); references = (record { name = (codes "r0"); interface_name = (codes "Y"); cardinality = ZeroOrOne; policy = Dynamic; policy_option = Reluctant; target = None; updated = None } ∷ record { name = (codes "r1"); interface_name = (codes "J0"); cardinality = OneOrMore; policy = Static; policy_option = Reluctant; target = None; updated = None } ∷ []); modified = (Some (codes "m")); configuration_policy = Optional; configuration_pids = ((codes "c3") ∷ []); implicit = true } ∷ []) }

abbrev past0 : History
past0 = []

abbrev past1 : History
past1 = record { step = (Commanded (Install doc1)); closed = []; opened = []; stopped = [] } ∷ past0

abbrev past2 : History
past2 = record { step = (Commanded (Install doc2)); closed = []; opened = []; stopped = [] } ∷ past1

abbrev past3 : History
past3 = record { step = (Commanded (Install doc3)); closed = []; opened = []; stopped = [] } ∷ past2

abbrev past4 : History
past4 = record { step = (Commanded (Install doc4)); closed = []; opened = []; stopped = [] } ∷ past3

abbrev past5 : History
past5 = record { step = (Commanded (Start 1)); closed = []; opened = []; stopped = [] } ∷ past4

abbrev past6 : History
past6 = record { step = (Commanded (Register 1 ((codes "X") ∷ []) (record { key = (codes "v"); value = (Whole (pos 2)) } ∷ []))); closed = []; opened = (record { configuration = 1; service = 2 } ∷ []); stopped = [] } ∷ past5

abbrev past7 : History
past7 = record { step = (Begin 1 1 1 0 Create []); closed = []; opened = []; stopped = [] } ∷ past6

abbrev past8 : History
past8 = record { step = (End 1 Done); closed = []; opened = []; stopped = [] } ∷ past7

abbrev past9 : History
past9 = record { step = (Begin 2 1 1 0 (Bind (codes "next") 1) []); closed = []; opened = []; stopped = [] } ∷ past8

abbrev past10 : History
past10 = record { step = (End 2 Done); closed = []; opened = []; stopped = [] } ∷ past9

abbrev past11 : History
past11 = record { step = (Begin 3 1 1 0 Activate []); closed = []; opened = []; stopped = [] } ∷ past10

abbrev past12 : History
past12 = record { step = (End 3 Done); closed = []; opened = []; stopped = [] } ∷ past11

abbrev past13 : History
past13 = record { step = (Commanded (Start 2)); closed = []; opened = (record { configuration = 3; service = 3 } ∷ []); stopped = [] } ∷ past12

abbrev past14 : History
past14 = record { step = (Commanded (Start 3)); closed = []; opened = (record { configuration = 4; service = 4 } ∷ []); stopped = [] } ∷ past13

abbrev past15 : History
past15 = record { step = (Commanded (Register 3 ((codes "Y") ∷ []) [])); closed = []; opened = []; stopped = [] } ∷ past14

abbrev past16 : History
past16 = record { step = (Commanded (Start 4)); closed = []; opened = (record { configuration = 5; service = 6 } ∷ []); stopped = [] } ∷ past15

abbrev past17 : History
past17 = record { step = (Begin 4 2 5 0 Create (record { reference = 1; services = (2 ∷ []) } ∷ [])); closed = []; opened = []; stopped = [] } ∷ past16

abbrev past18 : History
past18 = record { step = (End 4 Done); closed = []; opened = []; stopped = [] } ∷ past17

abbrev past19 : History
past19 = record { step = (Begin 5 2 5 0 (Bind (codes "r0") 5) []); closed = []; opened = []; stopped = [] } ∷ past18

abbrev past20 : History
past20 = record { step = (End 5 Done); closed = []; opened = []; stopped = [] } ∷ past19

abbrev past21 : History
past21 = record { step = (Begin 6 2 5 0 (Bind (codes "r1") 2) []); closed = []; opened = []; stopped = [] } ∷ past20

abbrev past22 : History
past22 = record { step = (End 6 Done); closed = []; opened = []; stopped = [] } ∷ past21

abbrev past23 : History
past23 = record { step = (Begin 7 2 5 0 Activate []); closed = []; opened = []; stopped = [] } ∷ past22

abbrev past24 : History
past24 = record { step = (End 7 Done); closed = []; opened = []; stopped = [] } ∷ past23

abbrev past25 : History
past25 = record { step = (Commanded (SetProperties 1 1 (record { key = (codes "v"); value = (Whole (pos 0)) } ∷ []))); closed = []; opened = []; stopped = [] } ∷ past24

abbrev past26 : History
past26 = record { step = (Commanded (SetProperties 1 1 (record { key = (codes "service.ranking"); value = (Whole (pos 1)) } ∷ []))); closed = []; opened = []; stopped = [] } ∷ past25

abbrev past27 : History
past27 = record { step = (Commanded (Register 3 ((codes "Y") ∷ []) (record { key = (codes "v"); value = (Whole (pos 0)) } ∷ []))); closed = []; opened = []; stopped = [] } ∷ past26

abbrev past28 : History
past28 = record { step = (Commanded (Register 4 ((codes "I3") ∷ []) [])); closed = []; opened = []; stopped = [] } ∷ past27

abbrev past29 : History
past29 = record { step = (Commanded (Disable 1 (codes "c2"))); closed = (1 ∷ 5 ∷ []); opened = []; stopped = [] } ∷ past28

abbrev past30 : History
past30 = record { step = (Drained 1); closed = []; opened = []; stopped = [] } ∷ past29

abbrev past31 : History
past31 = record { step = (Drained 2); closed = []; opened = []; stopped = [] } ∷ past30

abbrev past32 : History
past32 = record { step = (Begin 8 2 5 0 Deactivate []); closed = []; opened = []; stopped = [] } ∷ past31

abbrev past33 : History
past33 = record { step = (End 8 Done); closed = []; opened = []; stopped = [] } ∷ past32

abbrev past34 : History
past34 = record { step = (Begin 9 2 5 0 (Unbind (codes "r1") 2) []); closed = []; opened = []; stopped = [] } ∷ past33

abbrev past35 : History
past35 = record { step = (End 9 Done); closed = []; opened = []; stopped = [] } ∷ past34

abbrev past36 : History
past36 = record { step = (Begin 10 1 1 0 Deactivate []); closed = []; opened = []; stopped = [] } ∷ past35

abbrev past37 : History
past37 = record { step = (End 10 Done); closed = []; opened = []; stopped = [] } ∷ past36

abbrev past38 : History
past38 = record { step = (Begin 11 1 1 0 (Unbind (codes "next") 1) []); closed = []; opened = []; stopped = [] } ∷ past37

abbrev past39 : History
past39 = record { step = (End 11 Done); closed = []; opened = []; stopped = [] } ∷ past38

abbrev past40 : History
past40 = record { step = (Begin 12 1 1 0 Destroy []); closed = []; opened = []; stopped = [] } ∷ past39

abbrev past41 : History
past41 = record { step = (End 12 Done); closed = []; opened = []; stopped = [] } ∷ past40

abbrev past42 : History
past42 = record { step = (Begin 13 2 5 0 (Unbind (codes "r0") 5) []); closed = []; opened = []; stopped = [] } ∷ past41

abbrev past43 : History
past43 = record { step = (End 13 Done); closed = []; opened = []; stopped = [] } ∷ past42

abbrev past44 : History
past44 = record { step = (Begin 14 2 5 0 Destroy []); closed = []; opened = []; stopped = [] } ∷ past43

abbrev past45 : History
past45 = record { step = (End 14 Done); closed = []; opened = []; stopped = [] } ∷ past44

abbrev past46 : History
past46 = record { step = (Commanded (Enable 1 (codes "c2"))); closed = []; opened = (record { configuration = 6; service = 9 } ∷ record { configuration = 5; service = 10 } ∷ []); stopped = [] } ∷ past45

abbrev past47 : History
past47 = record { step = (Begin 15 3 5 0 Create (record { reference = 1; services = (9 ∷ []) } ∷ [])); closed = []; opened = []; stopped = [] } ∷ past46

abbrev past48 : History
past48 = record { step = (End 15 Done); closed = []; opened = []; stopped = [] } ∷ past47

abbrev past49 : History
past49 = record { step = (Begin 16 3 5 0 (Bind (codes "r0") 5) []); closed = []; opened = []; stopped = [] } ∷ past48

abbrev past50 : History
past50 = record { step = (End 16 Done); closed = []; opened = []; stopped = [] } ∷ past49

abbrev past51 : History
past51 = record { step = (Begin 17 4 6 0 Create []); closed = []; opened = []; stopped = [] } ∷ past50

abbrev past52 : History
past52 = record { step = (End 17 Done); closed = []; opened = []; stopped = [] } ∷ past51

abbrev past53 : History
past53 = record { step = (Begin 18 4 6 0 (Bind (codes "next") 1) []); closed = []; opened = []; stopped = [] } ∷ past52

abbrev past54 : History
past54 = record { step = (End 18 Done); closed = []; opened = []; stopped = [] } ∷ past53

abbrev past55 : History
past55 = record { step = (Begin 19 4 6 0 Activate []); closed = []; opened = []; stopped = [] } ∷ past54

abbrev past56 : History
past56 = record { step = (End 19 Done); closed = []; opened = []; stopped = [] } ∷ past55

abbrev past57 : History
past57 = record { step = (Begin 20 3 5 0 (Bind (codes "r1") 9) []); closed = []; opened = []; stopped = [] } ∷ past56

abbrev past58 : History
past58 = record { step = (End 20 Done); closed = []; opened = []; stopped = [] } ∷ past57

abbrev past59 : History
past59 = record { step = (Begin 21 3 5 0 Activate []); closed = []; opened = []; stopped = [] } ∷ past58

abbrev past60 : History
past60 = record { step = (End 21 Done); closed = []; opened = []; stopped = [] } ∷ past59

abbrev past61 : History
past61 = record { step = (Commanded (Register 2 ((codes "J0") ∷ []) (record { key = (codes ".p"); value = (Whole (pos 1)) } ∷ []))); closed = []; opened = []; stopped = [] } ∷ past60

abbrev past62 : History
past62 = record { step = (Commanded (Listen 4 (tree_or_none (codes "(v=1)")))); closed = []; opened = []; stopped = [] } ∷ past61

abbrev past63 : History
past63 = record { step = (Commanded (SetProperties 1 1 (record { key = (codes "service.ranking"); value = (Whole (pos 3)) } ∷ record { key = (codes "v"); value = (Whole (pos 2)) } ∷ []))); closed = []; opened = []; stopped = [] } ∷ past62

abbrev past64 : History
past64 = record { step = (Commanded (Register 4 ((codes "Y") ∷ []) (record { key = (codes "service.ranking"); value = (Whole (pos 2)) } ∷ []))); closed = []; opened = []; stopped = [] } ∷ past63

abbrev all : List World
all = worlds past64

is_legal : legal 4194304 past64 all ≡ true
unfolding world_after_entry world_of world_after_step stage_in stage_of stopped_in stopped_by shut_between has_room satisfied_in
is_legal = refl

stands_legal : IsLegal 4194304 past64
stands_legal = legal_means 4194304 past64 is_legal

which_begin : begins all ≡ (None ∷ None ∷ None ∷ None ∷ None ∷ None ∷ (Some (Begin 21 3 5 0 Activate [])) ∷ None ∷ (Some (Begin 20 3 5 0 (Bind (codes "r1") 9) [])) ∷ None ∷ (Some (Begin 19 4 6 0 Activate [])) ∷ None ∷ (Some (Begin 18 4 6 0 (Bind (codes "next") 1) [])) ∷ None ∷ (Some (Begin 17 4 6 0 Create [])) ∷ (Some (Begin 17 4 6 0 Create [])) ∷ (Some (Begin 16 3 5 0 (Bind (codes "r0") 5) [])) ∷ (Some (Begin 16 4 6 0 Create [])) ∷ (Some (Begin 15 3 5 0 Create (record { reference = 1; services = (9 ∷ []) } ∷ []))) ∷ None ∷ None ∷ (Some (Begin 14 2 5 0 Destroy [])) ∷ None ∷ (Some (Begin 13 2 5 0 (Unbind (codes "r0") 5) [])) ∷ (Some (Begin 13 2 5 0 (Unbind (codes "r0") 5) [])) ∷ (Some (Begin 12 1 1 0 Destroy [])) ∷ (Some (Begin 12 2 5 0 (Unbind (codes "r0") 5) [])) ∷ (Some (Begin 11 1 1 0 (Unbind (codes "next") 1) [])) ∷ (Some (Begin 11 2 5 0 (Unbind (codes "r0") 5) [])) ∷ (Some (Begin 10 1 1 0 Deactivate [])) ∷ None ∷ (Some (Begin 9 2 5 0 (Unbind (codes "r1") 2) [])) ∷ None ∷ (Some (Begin 8 2 5 0 Deactivate [])) ∷ None ∷ None ∷ None ∷ None ∷ None ∷ None ∷ None ∷ None ∷ (Some (Begin 7 2 5 0 Activate [])) ∷ None ∷ (Some (Begin 6 2 5 0 (Bind (codes "r1") 2) [])) ∷ None ∷ (Some (Begin 5 2 5 0 (Bind (codes "r0") 5) [])) ∷ None ∷ (Some (Begin 4 2 5 0 Create (record { reference = 1; services = (2 ∷ []) } ∷ []))) ∷ None ∷ None ∷ None ∷ None ∷ None ∷ (Some (Begin 3 1 1 0 Activate [])) ∷ None ∷ (Some (Begin 2 1 1 0 (Bind (codes "next") 1) [])) ∷ None ∷ (Some (Begin 1 1 1 0 Create [])) ∷ None ∷ None ∷ None ∷ None ∷ None ∷ None ∷ [])
unfolding world_after_entry world_of world_after_step stage_in stage_of stopped_in stopped_by shut_between has_room satisfied_in
which_begin = refl

which_states : states all ≡ (((2, 1) ∷ (3, 4) ∷ (4, 4) ∷ (5, 8) ∷ (6, 8) ∷ []) ∷ ((2, 1) ∷ (3, 4) ∷ (4, 4) ∷ (5, 8) ∷ (6, 8) ∷ []) ∷ ((2, 1) ∷ (3, 4) ∷ (4, 4) ∷ (5, 8) ∷ (6, 8) ∷ []) ∷ ((2, 1) ∷ (3, 4) ∷ (4, 4) ∷ (5, 8) ∷ (6, 8) ∷ []) ∷ ((2, 1) ∷ (3, 4) ∷ (4, 4) ∷ (5, 8) ∷ (6, 8) ∷ []) ∷ ((2, 1) ∷ (3, 4) ∷ (4, 4) ∷ (5, 4) ∷ (6, 8) ∷ []) ∷ ((2, 1) ∷ (3, 4) ∷ (4, 4) ∷ (5, 4) ∷ (6, 8) ∷ []) ∷ ((2, 1) ∷ (3, 4) ∷ (4, 4) ∷ (5, 4) ∷ (6, 8) ∷ []) ∷ ((2, 1) ∷ (3, 4) ∷ (4, 4) ∷ (5, 4) ∷ (6, 8) ∷ []) ∷ ((2, 1) ∷ (3, 4) ∷ (4, 4) ∷ (5, 4) ∷ (6, 4) ∷ []) ∷ ((2, 1) ∷ (3, 4) ∷ (4, 4) ∷ (5, 4) ∷ (6, 4) ∷ []) ∷ ((2, 1) ∷ (3, 4) ∷ (4, 4) ∷ (5, 4) ∷ (6, 4) ∷ []) ∷ ((2, 1) ∷ (3, 4) ∷ (4, 4) ∷ (5, 4) ∷ (6, 4) ∷ []) ∷ ((2, 1) ∷ (3, 4) ∷ (4, 4) ∷ (5, 4) ∷ (6, 4) ∷ []) ∷ ((2, 1) ∷ (3, 4) ∷ (4, 4) ∷ (5, 4) ∷ (6, 4) ∷ []) ∷ ((2, 1) ∷ (3, 4) ∷ (4, 4) ∷ (5, 4) ∷ (6, 4) ∷ []) ∷ ((2, 1) ∷ (3, 4) ∷ (4, 4) ∷ (5, 4) ∷ (6, 4) ∷ []) ∷ ((2, 1) ∷ (3, 4) ∷ (4, 4) ∷ (5, 4) ∷ (6, 4) ∷ []) ∷ ((2, 1) ∷ (3, 4) ∷ (4, 4) ∷ (5, 4) ∷ (6, 4) ∷ []) ∷ ((2, 1) ∷ (3, 4) ∷ (4, 4) ∷ (5, 2) ∷ []) ∷ ((2, 1) ∷ (3, 4) ∷ (4, 4) ∷ (5, 2) ∷ []) ∷ ((2, 1) ∷ (3, 4) ∷ (4, 4) ∷ (5, 2) ∷ []) ∷ ((2, 1) ∷ (3, 4) ∷ (4, 4) ∷ (5, 2) ∷ []) ∷ ((2, 1) ∷ (3, 4) ∷ (4, 4) ∷ (5, 2) ∷ []) ∷ ((2, 1) ∷ (3, 4) ∷ (4, 4) ∷ (5, 2) ∷ []) ∷ ((2, 1) ∷ (3, 4) ∷ (4, 4) ∷ (5, 2) ∷ []) ∷ ((2, 1) ∷ (3, 4) ∷ (4, 4) ∷ (5, 2) ∷ []) ∷ ((2, 1) ∷ (3, 4) ∷ (4, 4) ∷ (5, 2) ∷ []) ∷ ((2, 1) ∷ (3, 4) ∷ (4, 4) ∷ (5, 2) ∷ []) ∷ ((2, 1) ∷ (3, 4) ∷ (4, 4) ∷ (5, 2) ∷ []) ∷ ((2, 1) ∷ (3, 4) ∷ (4, 4) ∷ (5, 2) ∷ []) ∷ ((2, 1) ∷ (3, 4) ∷ (4, 4) ∷ (5, 2) ∷ []) ∷ ((2, 1) ∷ (3, 4) ∷ (4, 4) ∷ (5, 2) ∷ []) ∷ ((2, 1) ∷ (3, 4) ∷ (4, 4) ∷ (5, 2) ∷ []) ∷ ((2, 1) ∷ (3, 4) ∷ (4, 4) ∷ (5, 2) ∷ []) ∷ ((2, 1) ∷ (3, 4) ∷ (4, 4) ∷ (5, 2) ∷ []) ∷ ((1, 8) ∷ (2, 1) ∷ (3, 4) ∷ (4, 4) ∷ (5, 8) ∷ []) ∷ ((1, 8) ∷ (2, 1) ∷ (3, 4) ∷ (4, 4) ∷ (5, 8) ∷ []) ∷ ((1, 8) ∷ (2, 1) ∷ (3, 4) ∷ (4, 4) ∷ (5, 8) ∷ []) ∷ ((1, 8) ∷ (2, 1) ∷ (3, 4) ∷ (4, 4) ∷ (5, 8) ∷ []) ∷ ((1, 8) ∷ (2, 1) ∷ (3, 4) ∷ (4, 4) ∷ (5, 8) ∷ []) ∷ ((1, 8) ∷ (2, 1) ∷ (3, 4) ∷ (4, 4) ∷ (5, 4) ∷ []) ∷ ((1, 8) ∷ (2, 1) ∷ (3, 4) ∷ (4, 4) ∷ (5, 4) ∷ []) ∷ ((1, 8) ∷ (2, 1) ∷ (3, 4) ∷ (4, 4) ∷ (5, 4) ∷ []) ∷ ((1, 8) ∷ (2, 1) ∷ (3, 4) ∷ (4, 4) ∷ (5, 4) ∷ []) ∷ ((1, 8) ∷ (2, 1) ∷ (3, 4) ∷ (4, 4) ∷ (5, 4) ∷ []) ∷ ((1, 8) ∷ (2, 1) ∷ (3, 4) ∷ (4, 4) ∷ (5, 4) ∷ []) ∷ ((1, 8) ∷ (2, 1) ∷ (3, 4) ∷ (4, 4) ∷ (5, 4) ∷ []) ∷ ((1, 8) ∷ (2, 1) ∷ (3, 4) ∷ (4, 4) ∷ (5, 4) ∷ []) ∷ ((1, 8) ∷ (2, 1) ∷ (3, 4) ∷ (4, 4) ∷ []) ∷ ((1, 8) ∷ (2, 1) ∷ (3, 4) ∷ (4, 4) ∷ []) ∷ ((1, 8) ∷ (2, 1) ∷ (3, 4) ∷ []) ∷ ((1, 8) ∷ []) ∷ ((1, 4) ∷ []) ∷ ((1, 4) ∷ []) ∷ ((1, 4) ∷ []) ∷ ((1, 4) ∷ []) ∷ ((1, 4) ∷ []) ∷ ((1, 4) ∷ []) ∷ ((1, 2) ∷ []) ∷ [] ∷ [] ∷ [] ∷ [] ∷ [] ∷ [])
unfolding world_after_entry world_of world_after_step stage_in stage_of stopped_in stopped_by shut_between has_room satisfied_in
which_states = refl

which_quiet : quiet_ones all ≡ (true ∷ true ∷ true ∷ true ∷ true ∷ false ∷ false ∷ false ∷ false ∷ false ∷ false ∷ false ∷ false ∷ false ∷ false ∷ false ∷ false ∷ false ∷ false ∷ true ∷ false ∷ false ∷ false ∷ false ∷ false ∷ false ∷ false ∷ false ∷ false ∷ false ∷ false ∷ false ∷ false ∷ false ∷ false ∷ false ∷ true ∷ true ∷ true ∷ true ∷ true ∷ false ∷ false ∷ false ∷ false ∷ false ∷ false ∷ false ∷ false ∷ true ∷ true ∷ true ∷ true ∷ false ∷ false ∷ false ∷ false ∷ false ∷ false ∷ true ∷ true ∷ true ∷ true ∷ true ∷ true ∷ [])
unfolding world_after_entry world_of world_after_step stage_in stage_of stopped_in stopped_by shut_between has_room satisfied_in
which_quiet = refl

which_right : right_ones all ≡ (true ∷ true ∷ true ∷ true ∷ true ∷ false ∷ false ∷ false ∷ false ∷ false ∷ false ∷ false ∷ false ∷ false ∷ false ∷ false ∷ false ∷ false ∷ false ∷ true ∷ false ∷ false ∷ false ∷ false ∷ false ∷ false ∷ false ∷ false ∷ false ∷ false ∷ false ∷ false ∷ false ∷ false ∷ false ∷ false ∷ true ∷ true ∷ true ∷ true ∷ true ∷ false ∷ false ∷ false ∷ false ∷ false ∷ false ∷ false ∷ false ∷ true ∷ true ∷ true ∷ true ∷ false ∷ false ∷ false ∷ false ∷ false ∷ false ∷ true ∷ true ∷ true ∷ true ∷ true ∷ true ∷ [])
unfolding world_after_entry world_of world_after_step stage_in stage_of stopped_in stopped_by shut_between has_room satisfied_in
which_right = refl

which_wanted : wanted_at all ≡ ((record { configuration = 5; consumer = 0 } ∷ record { configuration = 6; consumer = 0 } ∷ []) ∷ (record { configuration = 5; consumer = 0 } ∷ record { configuration = 6; consumer = 0 } ∷ []) ∷ (record { configuration = 5; consumer = 0 } ∷ record { configuration = 6; consumer = 0 } ∷ []) ∷ (record { configuration = 5; consumer = 0 } ∷ record { configuration = 6; consumer = 0 } ∷ []) ∷ (record { configuration = 5; consumer = 0 } ∷ record { configuration = 6; consumer = 0 } ∷ []) ∷ (record { configuration = 5; consumer = 0 } ∷ record { configuration = 6; consumer = 0 } ∷ []) ∷ (record { configuration = 5; consumer = 0 } ∷ record { configuration = 6; consumer = 0 } ∷ []) ∷ (record { configuration = 5; consumer = 0 } ∷ record { configuration = 6; consumer = 0 } ∷ []) ∷ (record { configuration = 5; consumer = 0 } ∷ record { configuration = 6; consumer = 0 } ∷ []) ∷ (record { configuration = 5; consumer = 0 } ∷ record { configuration = 6; consumer = 0 } ∷ []) ∷ (record { configuration = 5; consumer = 0 } ∷ record { configuration = 6; consumer = 0 } ∷ []) ∷ (record { configuration = 5; consumer = 0 } ∷ record { configuration = 6; consumer = 0 } ∷ []) ∷ (record { configuration = 5; consumer = 0 } ∷ record { configuration = 6; consumer = 0 } ∷ []) ∷ (record { configuration = 5; consumer = 0 } ∷ record { configuration = 6; consumer = 0 } ∷ []) ∷ (record { configuration = 5; consumer = 0 } ∷ record { configuration = 6; consumer = 0 } ∷ []) ∷ (record { configuration = 5; consumer = 0 } ∷ record { configuration = 6; consumer = 0 } ∷ []) ∷ (record { configuration = 5; consumer = 0 } ∷ record { configuration = 6; consumer = 0 } ∷ []) ∷ (record { configuration = 5; consumer = 0 } ∷ record { configuration = 6; consumer = 0 } ∷ []) ∷ (record { configuration = 5; consumer = 0 } ∷ record { configuration = 6; consumer = 0 } ∷ []) ∷ [] ∷ [] ∷ [] ∷ [] ∷ [] ∷ [] ∷ [] ∷ [] ∷ [] ∷ [] ∷ [] ∷ [] ∷ [] ∷ [] ∷ [] ∷ [] ∷ [] ∷ (record { configuration = 1; consumer = 0 } ∷ record { configuration = 5; consumer = 0 } ∷ []) ∷ (record { configuration = 1; consumer = 0 } ∷ record { configuration = 5; consumer = 0 } ∷ []) ∷ (record { configuration = 1; consumer = 0 } ∷ record { configuration = 5; consumer = 0 } ∷ []) ∷ (record { configuration = 1; consumer = 0 } ∷ record { configuration = 5; consumer = 0 } ∷ []) ∷ (record { configuration = 1; consumer = 0 } ∷ record { configuration = 5; consumer = 0 } ∷ []) ∷ (record { configuration = 1; consumer = 0 } ∷ record { configuration = 5; consumer = 0 } ∷ []) ∷ (record { configuration = 1; consumer = 0 } ∷ record { configuration = 5; consumer = 0 } ∷ []) ∷ (record { configuration = 1; consumer = 0 } ∷ record { configuration = 5; consumer = 0 } ∷ []) ∷ (record { configuration = 1; consumer = 0 } ∷ record { configuration = 5; consumer = 0 } ∷ []) ∷ (record { configuration = 1; consumer = 0 } ∷ record { configuration = 5; consumer = 0 } ∷ []) ∷ (record { configuration = 1; consumer = 0 } ∷ record { configuration = 5; consumer = 0 } ∷ []) ∷ (record { configuration = 1; consumer = 0 } ∷ record { configuration = 5; consumer = 0 } ∷ []) ∷ (record { configuration = 1; consumer = 0 } ∷ record { configuration = 5; consumer = 0 } ∷ []) ∷ (record { configuration = 1; consumer = 0 } ∷ []) ∷ (record { configuration = 1; consumer = 0 } ∷ []) ∷ (record { configuration = 1; consumer = 0 } ∷ []) ∷ (record { configuration = 1; consumer = 0 } ∷ []) ∷ (record { configuration = 1; consumer = 0 } ∷ []) ∷ (record { configuration = 1; consumer = 0 } ∷ []) ∷ (record { configuration = 1; consumer = 0 } ∷ []) ∷ (record { configuration = 1; consumer = 0 } ∷ []) ∷ (record { configuration = 1; consumer = 0 } ∷ []) ∷ (record { configuration = 1; consumer = 0 } ∷ []) ∷ [] ∷ [] ∷ [] ∷ [] ∷ [] ∷ [] ∷ [])
unfolding world_after_entry world_of world_after_step stage_in stage_of stopped_in stopped_by shut_between has_room satisfied_in
which_wanted = refl

which_replies : replies 4194304 all (asked 0 (Install doc1) ∷ asked 1 (Install doc2) ∷ asked 2 (Install doc3) ∷ asked 3 (Install doc4) ∷ asked 4 (Start 1) ∷ asked 5 (Register 1 ((codes "X") ∷ []) (record { key = (codes "v"); value = (Whole (pos 2)) } ∷ [])) ∷ asked 12 (Start 2) ∷ asked 13 (Start 3) ∷ asked 14 (Register 3 ((codes "Y") ∷ []) []) ∷ asked 15 (Start 4) ∷ asked 24 (SetProperties 1 1 (record { key = (codes "v"); value = (Whole (pos 0)) } ∷ [])) ∷ asked 25 (SetProperties 1 1 (record { key = (codes "service.ranking"); value = (Whole (pos 1)) } ∷ [])) ∷ asked 26 (Register 3 ((codes "Y") ∷ []) (record { key = (codes "v"); value = (Whole (pos 0)) } ∷ [])) ∷ asked 27 (Register 4 ((codes "I3") ∷ []) []) ∷ asked 28 (Unconfigure (codes "c3")) ∷ asked 28 (Disable 1 (codes "c2")) ∷ asked 45 (Enable 1 (codes "c2")) ∷ asked 60 (Register 2 ((codes "J0") ∷ []) (record { key = (codes ".p"); value = (Whole (pos 1)) } ∷ [])) ∷ asked 61 (Listen 4 (tree_or_none (codes "(v=1)"))) ∷ asked 62 (SetProperties 1 1 (record { key = (codes "service.ranking"); value = (Whole (pos 3)) } ∷ record { key = (codes "v"); value = (Whole (pos 2)) } ∷ [])) ∷ asked 63 (Register 4 ((codes "Y") ∷ []) (record { key = (codes "service.ranking"); value = (Whole (pos 2)) } ∷ [])) ∷ []) ≡ ((Ok (InBundle 1)) ∷ (Ok (InBundle 2)) ∷ (Ok (InBundle 3)) ∷ (Ok (InBundle 4)) ∷ (Ok IsDone) ∷ (Ok (AsService 1)) ∷ (Ok IsDone) ∷ (Ok IsDone) ∷ (Ok (AsService 5)) ∷ (Ok IsDone) ∷ (Ok IsDone) ∷ (Ok IsDone) ∷ (Ok (AsService 7)) ∷ (Ok (AsService 8)) ∷ (Err NoConfiguration) ∷ (Ok IsDone) ∷ (Ok IsDone) ∷ (Ok (AsService 11)) ∷ (Ok (AsListener 1)) ∷ (Ok IsDone) ∷ (Ok (AsService 12)) ∷ [])
unfolding world_after_entry world_of world_after_step stage_in stage_of stopped_in stopped_by shut_between has_room satisfied_in
which_replies = refl

bundle_events : bundle_events_at_end all ≡ (record { value = 1; bundle = 1 } ∷ record { value = 1; bundle = 2 } ∷ record { value = 1; bundle = 3 } ∷ record { value = 1; bundle = 4 } ∷ record { value = 32; bundle = 1 } ∷ record { value = 128; bundle = 1 } ∷ record { value = 2; bundle = 1 } ∷ record { value = 32; bundle = 2 } ∷ record { value = 128; bundle = 2 } ∷ record { value = 2; bundle = 2 } ∷ record { value = 32; bundle = 3 } ∷ record { value = 128; bundle = 3 } ∷ record { value = 2; bundle = 3 } ∷ record { value = 32; bundle = 4 } ∷ record { value = 128; bundle = 4 } ∷ record { value = 2; bundle = 4 } ∷ [])
unfolding world_after_entry world_of world_after_step stage_in stage_of stopped_in stopped_by shut_between has_room satisfied_in
bundle_events = refl

events_of_1 : events_at_end 1 all ≡ []
unfolding world_after_entry world_of world_after_step stage_in stage_of stopped_in stopped_by shut_between has_room satisfied_in
events_of_1 = refl

held_2 : held_at_end 2 all ≡ []
unfolding world_after_entry world_of world_after_step stage_in stage_of stopped_in stopped_by shut_between has_room satisfied_in
held_2 = refl

held_3 : held_at_end 3 all ≡ []
unfolding world_after_entry world_of world_after_step stage_in stage_of stopped_in stopped_by shut_between has_room satisfied_in
held_3 = refl

held_4 : held_at_end 4 all ≡ []
unfolding world_after_entry world_of world_after_step stage_in stage_of stopped_in stopped_by shut_between has_room satisfied_in
held_4 = refl

held_5 : held_at_end 5 all ≡ (record { instance = 3; reference = (codes "r0"); service = 5 } ∷ record { instance = 3; reference = (codes "r1"); service = 9 } ∷ [])
unfolding world_after_entry world_of world_after_step stage_in stage_of stopped_in stopped_by shut_between has_room satisfied_in
held_5 = refl

held_6 : held_at_end 6 all ≡ (record { instance = 4; reference = (codes "next"); service = 1 } ∷ [])
unfolding world_after_entry world_of world_after_step stage_in stage_of stopped_in stopped_by shut_between has_room satisfied_in
held_6 = refl

bound_is : bound_at_end all ≡ 246
unfolding world_after_entry world_of world_after_step stage_in stage_of stopped_in stopped_by shut_between has_room satisfied_in
bound_is = refl

calm_is : calm_at_end all ≡ true
unfolding world_after_entry world_of world_after_step stage_in stage_of stopped_in stopped_by shut_between has_room satisfied_in
calm_is = refl
