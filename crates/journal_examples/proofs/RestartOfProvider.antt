-- A provider stops and starts again. As an independent model of the platform has it.
use Rattle.std.specs.Prelude.{◌≡◌, refl, ℕ, List, [], ◌∷◌, codes, true, false, Some, None, Ok, Err, pos, negsuc}
use Rattle.prop_map.specs.declared.value.Value.TheVariants.{Text, Whole, Flag, Texts, Wholes, Flags}
use Rattle.prop_map.specs.declared.reference_words.Cardinality.TheVariants.{ZeroOrOne, One, ZeroOrMore, OneOrMore}
use Rattle.prop_map.specs.declared.reference_words.Policy.TheVariants.{Static, Dynamic}
use Rattle.prop_map.specs.declared.reference_words.PolicyOption.TheVariants.{Reluctant, Greedy}
use Rattle.component_dto.specs.declared.description.Scope.TheVariants.{Singleton, Bundle as InBundleScope, Prototype}
use Rattle.component_dto.specs.declared.description.ConfigurationPolicy.TheVariants.{Optional, Require, Ignore}
use Rattle.bundle_doc.specs.declared.document.BundleDoc.{BundleDoc}
use Rattle.bundle_life.specs.declared.bundle.BundleEvent.{BundleEvent}
use Rattle.journal_examples.proofs.Trees.{tree_or_none}
use Rattle.callback_orders.specs.declared.callback.Callback.TheVariants.{Create, Bind, Updated, Unbind, Activate, Modified, Deactivate, Destroy}
use Rattle.callback_orders.specs.declared.callback.Outcome.TheVariants.{Done, Refused, NoMemory}
use Rattle.service_listeners.specs.declared.listener.ServiceEvent.{ServiceEvent}
use Rattle.scr_world.specs.declared.step.Step.TheVariants.{Command as Commanded, Begin, End, Drained, Got, Released}
use Rattle.scr_world.specs.declared.command.Command.TheVariants.{Install, Update, Start, Stop, Uninstall, Enable, Disable, Register, Unregister, SetProperties, Get, Unget, Listen, Unlisten, Configure, ConfigureFactory, Unconfigure}
use Rattle.scr_world.specs.declared.reply.CoreFault.TheVariants.{NoBundle, NoComponent, WrongState, Stopping, SameName, Cycle, BundlesFull, ComponentsFull, ServicesFull, ConfigurationsFull, ListenersFull, NoService, NotOwner, NotUsing, NoListener, NoConfiguration, BadPid, FactoryClash, ActivationFailed, ActivationNoMemory, JournalFull}
use Rattle.scr_world.specs.declared.reply.Reply.TheVariants.{Done as IsDone, Bundle as InBundle, Service as AsService, Uses as WithUses, Listener as AsListener}
use Rattle.scr_world.specs.Steps.{History}
use Rattle.scr_world.specs.declared.world.World.{World}
use Rattle.journal_examples.proofs.Meanings.{legal_means}
use Rattle.scr_world.specs.Legal.{IsLegal}
use Rattle.journal_examples.proofs.Tests.{worlds, legal, begins, states, quiet_ones, right_ones, asked, replies, bundle_events_at_end, events_at_end, held_at_end, found_at_end, wanted_at, bound_at_end, calm_at_end}
use Rattle.scr_world.specs.Worlds.{satisfied_in}
use Rattle.scr_world.specs.Room.{has_room}
use Rattle.scr_world.specs.Consequences.{stage_in, stage_of, stopped_in, stopped_by, shut_between}
use Rattle.scr_world.specs.Stepping.{world_after_step}
use Rattle.scr_world.specs.Lists.{world_after_entry, world_of}

abbrev doc1 : BundleDoc
doc1 = record { location = (codes "b1"); name = (codes "b1"); version = record { major = 0; minor = 0; micro = 0; qualifier = [] }; manifest = None; activator = None; descriptions = (record { name = (codes "a"); scope = Singleton; implementation_class = (codes "K"); default_enabled = true; immediate = false; service_interfaces = ((codes "A") ∷ []); properties = []; references = []; modified = None; configuration_policy = Optional; configuration_pids = ((codes "a") ∷ []); implicit = true } ∷ []) }

abbrev doc2 : BundleDoc
doc2 = record { location = (codes "b2"); name = (codes "b2"); version = record { major = 0; minor = 0; micro = 0; qualifier = [] }; manifest = None; activator = None; descriptions = (record { name = (codes "m"); scope = Singleton; implementation_class = (codes "K"); default_enabled = true; immediate = false; service_interfaces = ((codes "M") ∷ []); properties = []; references = (record { name = (codes "a"); interface_name = (codes "A"); cardinality = One; policy = Static; policy_option = Reluctant; target = None; updated = None } ∷ []); modified = None; configuration_policy = Optional; configuration_pids = ((codes "m") ∷ []); implicit = true } ∷ record { name = (codes "t"); scope = Singleton; implementation_class = (codes "K"); default_enabled = true; immediate = true; service_interfaces = []; properties = []; references = (record { name = (codes "m"); interface_name = (codes "M"); cardinality = One; policy = Static; policy_option = Reluctant; target = None; updated = None } ∷ []); modified = None; configuration_policy = Optional; configuration_pids = ((codes "t") ∷ []); implicit = true } ∷ []) }

abbrev past0 : History
past0 = []

abbrev past1 : History
past1 = record { step = (Commanded (Install doc1)); closed = []; opened = []; stopped = [] } ∷ past0

abbrev past2 : History
past2 = record { step = (Commanded (Install doc2)); closed = []; opened = []; stopped = [] } ∷ past1

abbrev past3 : History
past3 = record { step = (Commanded (Start 1)); closed = []; opened = (record { configuration = 1; service = 1 } ∷ []); stopped = [] } ∷ past2

abbrev past4 : History
past4 = record { step = (Commanded (Start 2)); closed = []; opened = (record { configuration = 2; service = 2 } ∷ record { configuration = 3; service = 0 } ∷ []); stopped = [] } ∷ past3

abbrev past5 : History
past5 = record { step = (Begin 1 1 3 0 Create (record { reference = 0; services = (2 ∷ []) } ∷ [])); closed = []; opened = []; stopped = [] } ∷ past4

abbrev past6 : History
past6 = record { step = (End 1 Done); closed = []; opened = []; stopped = [] } ∷ past5

abbrev past7 : History
past7 = record { step = (Begin 2 2 2 0 Create (record { reference = 0; services = (1 ∷ []) } ∷ [])); closed = []; opened = []; stopped = [] } ∷ past6

abbrev past8 : History
past8 = record { step = (End 2 Done); closed = []; opened = []; stopped = [] } ∷ past7

abbrev past9 : History
past9 = record { step = (Begin 3 3 1 0 Create []); closed = []; opened = []; stopped = [] } ∷ past8

abbrev past10 : History
past10 = record { step = (End 3 Done); closed = []; opened = []; stopped = [] } ∷ past9

abbrev past11 : History
past11 = record { step = (Begin 4 3 1 0 Activate []); closed = []; opened = []; stopped = [] } ∷ past10

abbrev past12 : History
past12 = record { step = (End 4 Done); closed = []; opened = []; stopped = [] } ∷ past11

abbrev past13 : History
past13 = record { step = (Begin 5 2 2 0 (Bind (codes "a") 1) []); closed = []; opened = []; stopped = [] } ∷ past12

abbrev past14 : History
past14 = record { step = (End 5 Done); closed = []; opened = []; stopped = [] } ∷ past13

abbrev past15 : History
past15 = record { step = (Begin 6 2 2 0 Activate []); closed = []; opened = []; stopped = [] } ∷ past14

abbrev past16 : History
past16 = record { step = (End 6 Done); closed = []; opened = []; stopped = [] } ∷ past15

abbrev past17 : History
past17 = record { step = (Begin 7 1 3 0 (Bind (codes "m") 2) []); closed = []; opened = []; stopped = [] } ∷ past16

abbrev past18 : History
past18 = record { step = (End 7 Done); closed = []; opened = []; stopped = [] } ∷ past17

abbrev past19 : History
past19 = record { step = (Begin 8 1 3 0 Activate []); closed = []; opened = []; stopped = [] } ∷ past18

abbrev past20 : History
past20 = record { step = (End 8 Done); closed = []; opened = []; stopped = [] } ∷ past19

abbrev past21 : History
past21 = record { step = (Commanded (Stop 1)); closed = (1 ∷ 2 ∷ 3 ∷ []); opened = []; stopped = [] } ∷ past20

abbrev past22 : History
past22 = record { step = (Drained 1); closed = []; opened = []; stopped = [] } ∷ past21

abbrev past23 : History
past23 = record { step = (Drained 2); closed = []; opened = []; stopped = [] } ∷ past22

abbrev past24 : History
past24 = record { step = (Drained 3); closed = []; opened = []; stopped = [] } ∷ past23

abbrev past25 : History
past25 = record { step = (Begin 9 1 3 0 Deactivate []); closed = []; opened = []; stopped = [] } ∷ past24

abbrev past26 : History
past26 = record { step = (End 9 Done); closed = []; opened = []; stopped = [] } ∷ past25

abbrev past27 : History
past27 = record { step = (Begin 10 1 3 0 (Unbind (codes "m") 2) []); closed = []; opened = []; stopped = [] } ∷ past26

abbrev past28 : History
past28 = record { step = (End 10 Done); closed = []; opened = []; stopped = [] } ∷ past27

abbrev past29 : History
past29 = record { step = (Begin 11 1 3 0 Destroy []); closed = []; opened = []; stopped = [] } ∷ past28

abbrev past30 : History
past30 = record { step = (End 11 Done); closed = []; opened = []; stopped = [] } ∷ past29

abbrev past31 : History
past31 = record { step = (Begin 12 2 2 0 Deactivate []); closed = []; opened = []; stopped = [] } ∷ past30

abbrev past32 : History
past32 = record { step = (End 12 Done); closed = []; opened = []; stopped = [] } ∷ past31

abbrev past33 : History
past33 = record { step = (Begin 13 2 2 0 (Unbind (codes "a") 1) []); closed = []; opened = []; stopped = [] } ∷ past32

abbrev past34 : History
past34 = record { step = (End 13 Done); closed = []; opened = []; stopped = [] } ∷ past33

abbrev past35 : History
past35 = record { step = (Begin 14 2 2 0 Destroy []); closed = []; opened = []; stopped = [] } ∷ past34

abbrev past36 : History
past36 = record { step = (End 14 Done); closed = []; opened = []; stopped = [] } ∷ past35

abbrev past37 : History
past37 = record { step = (Begin 15 3 1 0 Deactivate []); closed = []; opened = []; stopped = [] } ∷ past36

abbrev past38 : History
past38 = record { step = (End 15 Done); closed = []; opened = []; stopped = [] } ∷ past37

abbrev past39 : History
past39 = record { step = (Begin 16 3 1 0 Destroy []); closed = []; opened = []; stopped = [] } ∷ past38

abbrev past40 : History
past40 = record { step = (End 16 Done); closed = []; opened = []; stopped = (1 ∷ []) } ∷ past39

abbrev past41 : History
past41 = record { step = (Commanded (Start 1)); closed = []; opened = (record { configuration = 4; service = 3 } ∷ record { configuration = 2; service = 4 } ∷ record { configuration = 3; service = 0 } ∷ []); stopped = [] } ∷ past40

abbrev past42 : History
past42 = record { step = (Begin 17 4 3 0 Create (record { reference = 0; services = (4 ∷ []) } ∷ [])); closed = []; opened = []; stopped = [] } ∷ past41

abbrev past43 : History
past43 = record { step = (End 17 Done); closed = []; opened = []; stopped = [] } ∷ past42

abbrev past44 : History
past44 = record { step = (Begin 18 5 2 0 Create (record { reference = 0; services = (3 ∷ []) } ∷ [])); closed = []; opened = []; stopped = [] } ∷ past43

abbrev past45 : History
past45 = record { step = (End 18 Done); closed = []; opened = []; stopped = [] } ∷ past44

abbrev past46 : History
past46 = record { step = (Begin 19 6 4 0 Create []); closed = []; opened = []; stopped = [] } ∷ past45

abbrev past47 : History
past47 = record { step = (End 19 Done); closed = []; opened = []; stopped = [] } ∷ past46

abbrev past48 : History
past48 = record { step = (Begin 20 6 4 0 Activate []); closed = []; opened = []; stopped = [] } ∷ past47

abbrev past49 : History
past49 = record { step = (End 20 Done); closed = []; opened = []; stopped = [] } ∷ past48

abbrev past50 : History
past50 = record { step = (Begin 21 5 2 0 (Bind (codes "a") 3) []); closed = []; opened = []; stopped = [] } ∷ past49

abbrev past51 : History
past51 = record { step = (End 21 Done); closed = []; opened = []; stopped = [] } ∷ past50

abbrev past52 : History
past52 = record { step = (Begin 22 5 2 0 Activate []); closed = []; opened = []; stopped = [] } ∷ past51

abbrev past53 : History
past53 = record { step = (End 22 Done); closed = []; opened = []; stopped = [] } ∷ past52

abbrev past54 : History
past54 = record { step = (Begin 23 4 3 0 (Bind (codes "m") 4) []); closed = []; opened = []; stopped = [] } ∷ past53

abbrev past55 : History
past55 = record { step = (End 23 Done); closed = []; opened = []; stopped = [] } ∷ past54

abbrev past56 : History
past56 = record { step = (Begin 24 4 3 0 Activate []); closed = []; opened = []; stopped = [] } ∷ past55

abbrev past57 : History
past57 = record { step = (End 24 Done); closed = []; opened = []; stopped = [] } ∷ past56

abbrev all : List World
all = worlds past57

is_legal : legal 4194304 past57 all ≡ true
unfolding world_after_entry world_of world_after_step stage_in stage_of stopped_in stopped_by shut_between has_room satisfied_in
is_legal = refl

stands_legal : IsLegal 4194304 past57
stands_legal = legal_means 4194304 past57 is_legal

which_begin : begins all ≡ (None ∷ None ∷ (Some (Begin 24 4 3 0 Activate [])) ∷ None ∷ (Some (Begin 23 4 3 0 (Bind (codes "m") 4) [])) ∷ None ∷ (Some (Begin 22 5 2 0 Activate [])) ∷ None ∷ (Some (Begin 21 5 2 0 (Bind (codes "a") 3) [])) ∷ None ∷ (Some (Begin 20 6 4 0 Activate [])) ∷ None ∷ (Some (Begin 19 6 4 0 Create [])) ∷ (Some (Begin 19 6 4 0 Create [])) ∷ (Some (Begin 18 5 2 0 Create (record { reference = 0; services = (3 ∷ []) } ∷ []))) ∷ (Some (Begin 18 5 2 0 Create (record { reference = 0; services = (3 ∷ []) } ∷ []))) ∷ (Some (Begin 17 4 3 0 Create (record { reference = 0; services = (4 ∷ []) } ∷ []))) ∷ None ∷ None ∷ (Some (Begin 16 3 1 0 Destroy [])) ∷ None ∷ (Some (Begin 15 3 1 0 Deactivate [])) ∷ (Some (Begin 15 3 1 0 Deactivate [])) ∷ (Some (Begin 14 2 2 0 Destroy [])) ∷ None ∷ (Some (Begin 13 2 2 0 (Unbind (codes "a") 1) [])) ∷ None ∷ (Some (Begin 12 2 2 0 Deactivate [])) ∷ (Some (Begin 12 2 2 0 Deactivate [])) ∷ (Some (Begin 11 1 3 0 Destroy [])) ∷ None ∷ (Some (Begin 10 1 3 0 (Unbind (codes "m") 2) [])) ∷ None ∷ (Some (Begin 9 1 3 0 Deactivate [])) ∷ (Some (Begin 9 1 3 0 Deactivate [])) ∷ (Some (Begin 9 1 3 0 Deactivate [])) ∷ None ∷ None ∷ None ∷ (Some (Begin 8 1 3 0 Activate [])) ∷ None ∷ (Some (Begin 7 1 3 0 (Bind (codes "m") 2) [])) ∷ None ∷ (Some (Begin 6 2 2 0 Activate [])) ∷ None ∷ (Some (Begin 5 2 2 0 (Bind (codes "a") 1) [])) ∷ None ∷ (Some (Begin 4 3 1 0 Activate [])) ∷ None ∷ (Some (Begin 3 3 1 0 Create [])) ∷ (Some (Begin 3 3 1 0 Create [])) ∷ (Some (Begin 2 2 2 0 Create (record { reference = 0; services = (1 ∷ []) } ∷ []))) ∷ (Some (Begin 2 2 2 0 Create (record { reference = 0; services = (1 ∷ []) } ∷ []))) ∷ (Some (Begin 1 1 3 0 Create (record { reference = 0; services = (2 ∷ []) } ∷ []))) ∷ None ∷ None ∷ None ∷ None ∷ [])
unfolding world_after_entry world_of world_after_step stage_in stage_of stopped_in stopped_by shut_between has_room satisfied_in
which_begin = refl

which_states : states all ≡ (((2, 8) ∷ (3, 8) ∷ (4, 8) ∷ []) ∷ ((2, 8) ∷ (3, 4) ∷ (4, 8) ∷ []) ∷ ((2, 8) ∷ (3, 4) ∷ (4, 8) ∷ []) ∷ ((2, 8) ∷ (3, 4) ∷ (4, 8) ∷ []) ∷ ((2, 8) ∷ (3, 4) ∷ (4, 8) ∷ []) ∷ ((2, 4) ∷ (3, 4) ∷ (4, 8) ∷ []) ∷ ((2, 4) ∷ (3, 4) ∷ (4, 8) ∷ []) ∷ ((2, 4) ∷ (3, 4) ∷ (4, 8) ∷ []) ∷ ((2, 4) ∷ (3, 4) ∷ (4, 8) ∷ []) ∷ ((2, 4) ∷ (3, 4) ∷ (4, 4) ∷ []) ∷ ((2, 4) ∷ (3, 4) ∷ (4, 4) ∷ []) ∷ ((2, 4) ∷ (3, 4) ∷ (4, 4) ∷ []) ∷ ((2, 4) ∷ (3, 4) ∷ (4, 4) ∷ []) ∷ ((2, 4) ∷ (3, 4) ∷ (4, 4) ∷ []) ∷ ((2, 4) ∷ (3, 4) ∷ (4, 4) ∷ []) ∷ ((2, 4) ∷ (3, 4) ∷ (4, 4) ∷ []) ∷ ((2, 4) ∷ (3, 4) ∷ (4, 4) ∷ []) ∷ ((2, 2) ∷ (3, 2) ∷ []) ∷ ((2, 2) ∷ (3, 2) ∷ []) ∷ ((2, 2) ∷ (3, 2) ∷ []) ∷ ((2, 2) ∷ (3, 2) ∷ []) ∷ ((2, 2) ∷ (3, 2) ∷ []) ∷ ((2, 2) ∷ (3, 2) ∷ []) ∷ ((2, 2) ∷ (3, 2) ∷ []) ∷ ((2, 2) ∷ (3, 2) ∷ []) ∷ ((2, 2) ∷ (3, 2) ∷ []) ∷ ((2, 2) ∷ (3, 2) ∷ []) ∷ ((2, 2) ∷ (3, 2) ∷ []) ∷ ((2, 2) ∷ (3, 2) ∷ []) ∷ ((2, 2) ∷ (3, 2) ∷ []) ∷ ((2, 2) ∷ (3, 2) ∷ []) ∷ ((2, 2) ∷ (3, 2) ∷ []) ∷ ((2, 2) ∷ (3, 2) ∷ []) ∷ ((2, 2) ∷ (3, 2) ∷ []) ∷ ((2, 2) ∷ (3, 2) ∷ []) ∷ ((2, 2) ∷ (3, 2) ∷ []) ∷ ((2, 2) ∷ (3, 2) ∷ []) ∷ ((1, 8) ∷ (2, 8) ∷ (3, 8) ∷ []) ∷ ((1, 8) ∷ (2, 8) ∷ (3, 4) ∷ []) ∷ ((1, 8) ∷ (2, 8) ∷ (3, 4) ∷ []) ∷ ((1, 8) ∷ (2, 8) ∷ (3, 4) ∷ []) ∷ ((1, 8) ∷ (2, 8) ∷ (3, 4) ∷ []) ∷ ((1, 8) ∷ (2, 4) ∷ (3, 4) ∷ []) ∷ ((1, 8) ∷ (2, 4) ∷ (3, 4) ∷ []) ∷ ((1, 8) ∷ (2, 4) ∷ (3, 4) ∷ []) ∷ ((1, 8) ∷ (2, 4) ∷ (3, 4) ∷ []) ∷ ((1, 4) ∷ (2, 4) ∷ (3, 4) ∷ []) ∷ ((1, 4) ∷ (2, 4) ∷ (3, 4) ∷ []) ∷ ((1, 4) ∷ (2, 4) ∷ (3, 4) ∷ []) ∷ ((1, 4) ∷ (2, 4) ∷ (3, 4) ∷ []) ∷ ((1, 4) ∷ (2, 4) ∷ (3, 4) ∷ []) ∷ ((1, 4) ∷ (2, 4) ∷ (3, 4) ∷ []) ∷ ((1, 4) ∷ (2, 4) ∷ (3, 4) ∷ []) ∷ ((1, 4) ∷ (2, 4) ∷ (3, 4) ∷ []) ∷ ((1, 4) ∷ []) ∷ [] ∷ [] ∷ [] ∷ [])
unfolding world_after_entry world_of world_after_step stage_in stage_of stopped_in stopped_by shut_between has_room satisfied_in
which_states = refl

which_quiet : quiet_ones all ≡ (true ∷ false ∷ false ∷ false ∷ false ∷ false ∷ false ∷ false ∷ false ∷ false ∷ false ∷ false ∷ false ∷ false ∷ false ∷ false ∷ false ∷ true ∷ false ∷ false ∷ false ∷ false ∷ false ∷ false ∷ false ∷ false ∷ false ∷ false ∷ false ∷ false ∷ false ∷ false ∷ false ∷ false ∷ false ∷ false ∷ false ∷ true ∷ false ∷ false ∷ false ∷ false ∷ false ∷ false ∷ false ∷ false ∷ false ∷ false ∷ false ∷ false ∷ false ∷ false ∷ false ∷ false ∷ true ∷ true ∷ true ∷ true ∷ [])
unfolding world_after_entry world_of world_after_step stage_in stage_of stopped_in stopped_by shut_between has_room satisfied_in
which_quiet = refl

which_right : right_ones all ≡ (true ∷ false ∷ false ∷ false ∷ false ∷ false ∷ false ∷ false ∷ false ∷ false ∷ false ∷ false ∷ false ∷ false ∷ false ∷ false ∷ false ∷ true ∷ false ∷ false ∷ false ∷ false ∷ false ∷ false ∷ false ∷ false ∷ false ∷ false ∷ false ∷ false ∷ false ∷ false ∷ false ∷ false ∷ false ∷ false ∷ false ∷ true ∷ false ∷ false ∷ false ∷ false ∷ false ∷ false ∷ false ∷ false ∷ false ∷ false ∷ false ∷ false ∷ false ∷ false ∷ false ∷ false ∷ true ∷ true ∷ true ∷ true ∷ [])
unfolding world_after_entry world_of world_after_step stage_in stage_of stopped_in stopped_by shut_between has_room satisfied_in
which_right = refl

which_wanted : wanted_at all ≡ ((record { configuration = 2; consumer = 0 } ∷ record { configuration = 3; consumer = 0 } ∷ record { configuration = 4; consumer = 0 } ∷ []) ∷ (record { configuration = 2; consumer = 0 } ∷ record { configuration = 3; consumer = 0 } ∷ record { configuration = 4; consumer = 0 } ∷ []) ∷ (record { configuration = 2; consumer = 0 } ∷ record { configuration = 3; consumer = 0 } ∷ record { configuration = 4; consumer = 0 } ∷ []) ∷ (record { configuration = 2; consumer = 0 } ∷ record { configuration = 3; consumer = 0 } ∷ record { configuration = 4; consumer = 0 } ∷ []) ∷ (record { configuration = 2; consumer = 0 } ∷ record { configuration = 3; consumer = 0 } ∷ record { configuration = 4; consumer = 0 } ∷ []) ∷ (record { configuration = 2; consumer = 0 } ∷ record { configuration = 3; consumer = 0 } ∷ record { configuration = 4; consumer = 0 } ∷ []) ∷ (record { configuration = 2; consumer = 0 } ∷ record { configuration = 3; consumer = 0 } ∷ record { configuration = 4; consumer = 0 } ∷ []) ∷ (record { configuration = 2; consumer = 0 } ∷ record { configuration = 3; consumer = 0 } ∷ record { configuration = 4; consumer = 0 } ∷ []) ∷ (record { configuration = 2; consumer = 0 } ∷ record { configuration = 3; consumer = 0 } ∷ record { configuration = 4; consumer = 0 } ∷ []) ∷ (record { configuration = 2; consumer = 0 } ∷ record { configuration = 3; consumer = 0 } ∷ record { configuration = 4; consumer = 0 } ∷ []) ∷ (record { configuration = 2; consumer = 0 } ∷ record { configuration = 3; consumer = 0 } ∷ record { configuration = 4; consumer = 0 } ∷ []) ∷ (record { configuration = 2; consumer = 0 } ∷ record { configuration = 3; consumer = 0 } ∷ record { configuration = 4; consumer = 0 } ∷ []) ∷ (record { configuration = 2; consumer = 0 } ∷ record { configuration = 3; consumer = 0 } ∷ record { configuration = 4; consumer = 0 } ∷ []) ∷ (record { configuration = 2; consumer = 0 } ∷ record { configuration = 3; consumer = 0 } ∷ record { configuration = 4; consumer = 0 } ∷ []) ∷ (record { configuration = 2; consumer = 0 } ∷ record { configuration = 3; consumer = 0 } ∷ []) ∷ (record { configuration = 2; consumer = 0 } ∷ record { configuration = 3; consumer = 0 } ∷ []) ∷ (record { configuration = 3; consumer = 0 } ∷ []) ∷ [] ∷ [] ∷ [] ∷ [] ∷ [] ∷ [] ∷ [] ∷ [] ∷ [] ∷ [] ∷ [] ∷ [] ∷ [] ∷ [] ∷ [] ∷ [] ∷ [] ∷ [] ∷ [] ∷ [] ∷ (record { configuration = 1; consumer = 0 } ∷ record { configuration = 2; consumer = 0 } ∷ record { configuration = 3; consumer = 0 } ∷ []) ∷ (record { configuration = 1; consumer = 0 } ∷ record { configuration = 2; consumer = 0 } ∷ record { configuration = 3; consumer = 0 } ∷ []) ∷ (record { configuration = 1; consumer = 0 } ∷ record { configuration = 2; consumer = 0 } ∷ record { configuration = 3; consumer = 0 } ∷ []) ∷ (record { configuration = 1; consumer = 0 } ∷ record { configuration = 2; consumer = 0 } ∷ record { configuration = 3; consumer = 0 } ∷ []) ∷ (record { configuration = 1; consumer = 0 } ∷ record { configuration = 2; consumer = 0 } ∷ record { configuration = 3; consumer = 0 } ∷ []) ∷ (record { configuration = 1; consumer = 0 } ∷ record { configuration = 2; consumer = 0 } ∷ record { configuration = 3; consumer = 0 } ∷ []) ∷ (record { configuration = 1; consumer = 0 } ∷ record { configuration = 2; consumer = 0 } ∷ record { configuration = 3; consumer = 0 } ∷ []) ∷ (record { configuration = 1; consumer = 0 } ∷ record { configuration = 2; consumer = 0 } ∷ record { configuration = 3; consumer = 0 } ∷ []) ∷ (record { configuration = 1; consumer = 0 } ∷ record { configuration = 2; consumer = 0 } ∷ record { configuration = 3; consumer = 0 } ∷ []) ∷ (record { configuration = 1; consumer = 0 } ∷ record { configuration = 2; consumer = 0 } ∷ record { configuration = 3; consumer = 0 } ∷ []) ∷ (record { configuration = 1; consumer = 0 } ∷ record { configuration = 2; consumer = 0 } ∷ record { configuration = 3; consumer = 0 } ∷ []) ∷ (record { configuration = 1; consumer = 0 } ∷ record { configuration = 2; consumer = 0 } ∷ record { configuration = 3; consumer = 0 } ∷ []) ∷ (record { configuration = 1; consumer = 0 } ∷ record { configuration = 2; consumer = 0 } ∷ record { configuration = 3; consumer = 0 } ∷ []) ∷ (record { configuration = 1; consumer = 0 } ∷ record { configuration = 2; consumer = 0 } ∷ record { configuration = 3; consumer = 0 } ∷ []) ∷ (record { configuration = 2; consumer = 0 } ∷ record { configuration = 3; consumer = 0 } ∷ []) ∷ (record { configuration = 2; consumer = 0 } ∷ record { configuration = 3; consumer = 0 } ∷ []) ∷ (record { configuration = 3; consumer = 0 } ∷ []) ∷ [] ∷ [] ∷ [] ∷ [] ∷ [])
unfolding world_after_entry world_of world_after_step stage_in stage_of stopped_in stopped_by shut_between has_room satisfied_in
which_wanted = refl

which_replies : replies 4194304 all (asked 0 (Install doc1) ∷ asked 1 (Install doc2) ∷ asked 2 (Start 1) ∷ asked 3 (Start 2) ∷ asked 20 (Stop 1) ∷ asked 40 (Start 1) ∷ []) ≡ ((Ok (InBundle 1)) ∷ (Ok (InBundle 2)) ∷ (Ok IsDone) ∷ (Ok IsDone) ∷ (Ok IsDone) ∷ (Ok IsDone) ∷ [])
unfolding world_after_entry world_of world_after_step stage_in stage_of stopped_in stopped_by shut_between has_room satisfied_in
which_replies = refl

bundle_events : bundle_events_at_end all ≡ (record { value = 1; bundle = 1 } ∷ record { value = 1; bundle = 2 } ∷ record { value = 32; bundle = 1 } ∷ record { value = 128; bundle = 1 } ∷ record { value = 2; bundle = 1 } ∷ record { value = 32; bundle = 2 } ∷ record { value = 128; bundle = 2 } ∷ record { value = 2; bundle = 2 } ∷ record { value = 256; bundle = 1 } ∷ record { value = 4; bundle = 1 } ∷ record { value = 128; bundle = 1 } ∷ record { value = 2; bundle = 1 } ∷ [])
unfolding world_after_entry world_of world_after_step stage_in stage_of stopped_in stopped_by shut_between has_room satisfied_in
bundle_events = refl

held_2 : held_at_end 2 all ≡ (record { instance = 5; reference = (codes "a"); service = 3 } ∷ [])
unfolding world_after_entry world_of world_after_step stage_in stage_of stopped_in stopped_by shut_between has_room satisfied_in
held_2 = refl

held_3 : held_at_end 3 all ≡ (record { instance = 4; reference = (codes "m"); service = 4 } ∷ [])
unfolding world_after_entry world_of world_after_step stage_in stage_of stopped_in stopped_by shut_between has_room satisfied_in
held_3 = refl

held_4 : held_at_end 4 all ≡ []
unfolding world_after_entry world_of world_after_step stage_in stage_of stopped_in stopped_by shut_between has_room satisfied_in
held_4 = refl

bound_is : bound_at_end all ≡ 114
unfolding world_after_entry world_of world_after_step stage_in stage_of stopped_in stopped_by shut_between has_room satisfied_in
bound_is = refl

calm_is : calm_at_end all ≡ true
unfolding world_after_entry world_of world_after_step stage_in stage_of stopped_in stopped_by shut_between has_room satisfied_in
calm_is = refl
