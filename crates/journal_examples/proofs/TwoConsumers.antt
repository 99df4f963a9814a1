-- One of two consumers of a service of bundle scope goes: its object is deactivated, not before its consumer let go, and the other's isn't.
use Rattle.std.specs.Prelude.{◌≡◌, refl, ℕ, List, [], ◌∷◌, codes, true, false, Some, None, Ok, Err, pos, negsuc}
use Rattle.prop_map.specs.declared.value.Value.TheVariants.{Text, Whole, Flag, Texts, Wholes, Flags}
use Rattle.prop_map.specs.declared.reference_words.Cardinality.TheVariants.{ZeroOrOne, One, ZeroOrMore, OneOrMore}
use Rattle.prop_map.specs.declared.reference_words.Policy.TheVariants.{Static, Dynamic}
use Rattle.prop_map.specs.declared.reference_words.PolicyOption.TheVariants.{Reluctant, Greedy}
use Rattle.component_dto.specs.declared.description.Scope.TheVariants.{Singleton, Bundle as InBundleScope, Prototype}
use Rattle.component_dto.specs.declared.description.ConfigurationPolicy.TheVariants.{Optional, Require, Ignore}
use Rattle.bundle_doc.specs.declared.document.BundleDoc.{BundleDoc}
use Rattle.bundle_life.specs.declared.bundle.BundleEvent.{BundleEvent}
use Rattle.journal_examples.proofs.Trees.{tree_or_none}
use Rattle.callback_orders.specs.declared.callback.Callback.TheVariants.{Create, Bind, Updated, Unbind, Activate, Modified, Deactivate, Destroy}
use Rattle.callback_orders.specs.declared.callback.Outcome.TheVariants.{Done, Refused, NoMemory}
use Rattle.service_listeners.specs.declared.listener.ServiceEvent.{ServiceEvent}
use Rattle.scr_world.specs.declared.step.Step.TheVariants.{Command as Commanded, Begin, End, Drained, Got, Released}
use Rattle.scr_world.specs.declared.command.Command.TheVariants.{Install, Update, Start, Stop, Uninstall, Enable, Disable, Register, Unregister, SetProperties, Get, Unget, Listen, Unlisten, Configure, ConfigureFactory, Unconfigure}
use Rattle.scr_world.specs.declared.reply.CoreFault.TheVariants.{NoBundle, NoComponent, WrongState, Stopping, SameName, Cycle, BundlesFull, ComponentsFull, ServicesFull, ConfigurationsFull, ListenersFull, NoService, NotOwner, NotUsing, NoListener, NoConfiguration, BadPid, FactoryClash, ActivationFailed, ActivationNoMemory, JournalFull}
use Rattle.scr_world.specs.declared.reply.Reply.TheVariants.{Done as IsDone, Bundle as InBundle, Service as AsService, Uses as WithUses, Listener as AsListener}
use Rattle.scr_world.specs.Steps.{History}
use Rattle.scr_world.specs.declared.world.World.{World}
use Rattle.journal_examples.proofs.Laws.{laws}
use Rattle.journal_examples.proofs.Meanings.{legal_means}
use Rattle.scr_world.specs.Legal.{IsLegal}
use Rattle.journal_examples.proofs.Tests.{worlds, legal, begins, states, quiet_ones, right_ones, asked, replies, bundle_events_at_end, events_at_end, held_at_end, found_at_end, wanted_at, bound_at_end, calm_at_end}
use Rattle.scr_world.specs.Worlds.{satisfied_in}
use Rattle.scr_world.specs.Room.{has_room, needed_by}
use Rattle.scr_world.specs.Consequences.{stage_in, stage_of, stopped_in, stopped_by, shut_between}
use Rattle.scr_world.specs.Stepping.{world_after_step}
use Rattle.scr_world.specs.Lists.{world_after_entry, world_of}
use Rattle.journal_examples.proofs.Tests.{may_come, newest}
use Rattle.std.specs.Prelude.{map}

abbrev doc1 : BundleDoc
doc1 = record { location = (codes "p"); name = (codes "p"); version = record { major = 0; minor = 0; micro = 0; qualifier = [] }; manifest = None; activator = None; descriptions = (record { name = (codes "p"); scope = InBundleScope; implementation_class = (codes "K"); default_enabled = true; immediate = false; service_interfaces = ((codes "P") ∷ []); properties = []; references = []; modified = None; configuration_policy = Optional; configuration_pids = ((codes "p") ∷ []); implicit = true } ∷ []) }

abbrev doc2 : BundleDoc
doc2 = record { location = (codes "c"); name = (codes "c"); version = record { major = 0; minor = 0; micro = 0; qualifier = [] }; manifest = None; activator = None; descriptions = (record { name = (codes "c"); scope = Singleton; implementation_class = (codes "K"); default_enabled = true; immediate = true; service_interfaces = []; properties = []; references = (record { name = (codes "x"); interface_name = (codes "P"); cardinality = One; policy = Static; policy_option = Reluctant; target = None; updated = None } ∷ []); modified = None; configuration_policy = Optional; configuration_pids = ((codes "c") ∷ []); implicit = true } ∷ []) }

abbrev doc3 : BundleDoc
doc3 = record { location = (codes "e"); name = (codes "e"); version = record { major = 0; minor = 0; micro = 0; qualifier = [] }; manifest = None; activator = None; descriptions = (record { name = (codes "e"); scope = Singleton; implementation_class = (codes "K"); default_enabled = true; immediate = true; service_interfaces = []; properties = []; references = (record { name = (codes "x"); interface_name = (codes "P"); cardinality = One; policy = Static; policy_option = Reluctant; target = None; updated = None } ∷ []); modified = None; configuration_policy = Optional; configuration_pids = ((codes "e") ∷ []); implicit = true } ∷ []) }

abbrev past0 : History
past0 = []

abbrev past1 : History
past1 = record { step = (Commanded (Install doc1)); closed = []; opened = []; stopped = [] } ∷ past0

abbrev past2 : History
past2 = record { step = (Commanded (Start 1)); closed = []; opened = (record { configuration = 1; service = 1 } ∷ []); stopped = [] } ∷ past1

abbrev past3 : History
past3 = record { step = (Commanded (Install doc2)); closed = []; opened = []; stopped = [] } ∷ past2

abbrev past4 : History
past4 = record { step = (Commanded (Start 2)); closed = []; opened = (record { configuration = 2; service = 0 } ∷ []); stopped = [] } ∷ past3

abbrev past5 : History
past5 = record { step = (Commanded (Install doc3)); closed = []; opened = []; stopped = [] } ∷ past4

abbrev past6 : History
past6 = record { step = (Commanded (Start 3)); closed = []; opened = (record { configuration = 3; service = 0 } ∷ []); stopped = [] } ∷ past5

abbrev past7 : History
past7 = record { step = (Begin 1 1 2 0 Create (record { reference = 0; services = (1 ∷ []) } ∷ [])); closed = []; opened = []; stopped = [] } ∷ past6

abbrev past8 : History
past8 = record { step = (End 1 Done); closed = []; opened = []; stopped = [] } ∷ past7

abbrev past9 : History
past9 = record { step = (Begin 2 2 1 2 Create []); closed = []; opened = []; stopped = [] } ∷ past8

abbrev past10 : History
past10 = record { step = (End 2 Done); closed = []; opened = []; stopped = [] } ∷ past9

abbrev past11 : History
past11 = record { step = (Begin 3 2 1 2 Activate []); closed = []; opened = []; stopped = [] } ∷ past10

abbrev past12 : History
past12 = record { step = (End 3 Done); closed = []; opened = []; stopped = [] } ∷ past11

abbrev past13 : History
past13 = record { step = (Begin 4 1 2 0 (Bind (codes "x") 1) []); closed = []; opened = []; stopped = [] } ∷ past12

abbrev past14 : History
past14 = record { step = (End 4 Done); closed = []; opened = []; stopped = [] } ∷ past13

abbrev past15 : History
past15 = record { step = (Begin 5 1 2 0 Activate []); closed = []; opened = []; stopped = [] } ∷ past14

abbrev past16 : History
past16 = record { step = (End 5 Done); closed = []; opened = []; stopped = [] } ∷ past15

abbrev past17 : History
past17 = record { step = (Begin 6 3 3 0 Create (record { reference = 0; services = (1 ∷ []) } ∷ [])); closed = []; opened = []; stopped = [] } ∷ past16

abbrev past18 : History
past18 = record { step = (End 6 Done); closed = []; opened = []; stopped = [] } ∷ past17

abbrev past19 : History
past19 = record { step = (Begin 7 4 1 3 Create []); closed = []; opened = []; stopped = [] } ∷ past18

abbrev past20 : History
past20 = record { step = (End 7 Done); closed = []; opened = []; stopped = [] } ∷ past19

abbrev past21 : History
past21 = record { step = (Begin 8 4 1 3 Activate []); closed = []; opened = []; stopped = [] } ∷ past20

abbrev past22 : History
past22 = record { step = (End 8 Done); closed = []; opened = []; stopped = [] } ∷ past21

abbrev past23 : History
past23 = record { step = (Begin 9 3 3 0 (Bind (codes "x") 1) []); closed = []; opened = []; stopped = [] } ∷ past22

abbrev past24 : History
past24 = record { step = (End 9 Done); closed = []; opened = []; stopped = [] } ∷ past23

abbrev past25 : History
past25 = record { step = (Begin 10 3 3 0 Activate []); closed = []; opened = []; stopped = [] } ∷ past24

abbrev past26 : History
past26 = record { step = (End 10 Done); closed = []; opened = []; stopped = [] } ∷ past25

abbrev past27 : History
past27 = record { step = (Commanded (Stop 2)); closed = (2 ∷ []); opened = []; stopped = [] } ∷ past26

abbrev past28 : History
past28 = record { step = (Drained 2); closed = []; opened = []; stopped = [] } ∷ past27

abbrev past29 : History
past29 = record { step = (Drained 1); closed = []; opened = []; stopped = [] } ∷ past28

abbrev past30 : History
past30 = record { step = (Begin 11 1 2 0 Deactivate []); closed = []; opened = []; stopped = [] } ∷ past29

abbrev past31 : History
past31 = record { step = (End 11 Done); closed = []; opened = []; stopped = [] } ∷ past30

abbrev past32 : History
past32 = record { step = (Begin 12 1 2 0 (Unbind (codes "x") 1) []); closed = []; opened = []; stopped = [] } ∷ past31

abbrev past33 : History
past33 = record { step = (End 12 Done); closed = []; opened = []; stopped = [] } ∷ past32

abbrev past34 : History
past34 = record { step = (Begin 13 1 2 0 Destroy []); closed = []; opened = []; stopped = [] } ∷ past33

abbrev past35 : History
past35 = record { step = (End 13 Done); closed = []; opened = []; stopped = [] } ∷ past34

abbrev past36 : History
past36 = record { step = (Begin 14 2 1 2 Deactivate []); closed = []; opened = []; stopped = [] } ∷ past35

abbrev past37 : History
past37 = record { step = (End 14 Done); closed = []; opened = []; stopped = [] } ∷ past36

abbrev past38 : History
past38 = record { step = (Begin 15 2 1 2 Destroy []); closed = []; opened = []; stopped = [] } ∷ past37

abbrev past39 : History
past39 = record { step = (End 15 Done); closed = []; opened = []; stopped = (2 ∷ []) } ∷ past38

abbrev all : List World
all = worlds past39

is_legal : legal 4194304 past39 all ≡ true
unfolding world_after_entry world_of world_after_step stage_in stage_of stopped_in stopped_by shut_between has_room satisfied_in
is_legal = refl

stands_legal : IsLegal 4194304 past39
stands_legal = legal_means 4194304 past39 is_legal

right_end : right_ones (newest all ∷ []) ≡ (true ∷ [])
unfolding world_after_entry world_of world_after_step stage_in stage_of stopped_in stopped_by shut_between has_room satisfied_in
right_end = refl

states_end : states (newest all ∷ []) ≡ (((1, 8) ∷ (3, 8) ∷ []) ∷ [])
unfolding world_after_entry world_of world_after_step stage_in stage_of stopped_in stopped_by shut_between has_room satisfied_in
states_end = refl

held_still : begins (newest (worlds past30) ∷ []) ≡ (None ∷ [])
unfolding world_after_entry world_of world_after_step stage_in stage_of stopped_in stopped_by shut_between has_room satisfied_in
held_still = refl

laws_hold : laws past39 all ≡ true
unfolding world_after_entry world_of world_after_step stage_in stage_of stopped_in stopped_by shut_between has_room satisfied_in
laws_hold = refl
