-- The three configuration policies. As an independent model of the platform has it.
use Rattle.std.specs.Prelude.{◌≡◌, refl, ℕ, List, [], ◌∷◌, codes, true, false, Some, None, Ok, Err, pos, negsuc}
use Rattle.prop_map.specs.declared.value.Value.TheVariants.{Text, Whole, Flag, Texts, Wholes, Flags}
use Rattle.prop_map.specs.declared.reference_words.Cardinality.TheVariants.{ZeroOrOne, One, ZeroOrMore, OneOrMore}
use Rattle.prop_map.specs.declared.reference_words.Policy.TheVariants.{Static, Dynamic}
use Rattle.prop_map.specs.declared.reference_words.PolicyOption.TheVariants.{Reluctant, Greedy}
use Rattle.component_dto.specs.declared.description.Scope.TheVariants.{Singleton, Bundle as InBundleScope, Prototype}
use Rattle.component_dto.specs.declared.description.ConfigurationPolicy.TheVariants.{Optional, Require, Ignore}
use Rattle.bundle_doc.specs.declared.document.BundleDoc.{BundleDoc}
use Rattle.bundle_life.specs.declared.bundle.BundleEvent.{BundleEvent}
use Rattle.journal_examples.proofs.Trees.{tree_or_none}
use Rattle.callback_orders.specs.declared.callback.Callback.TheVariants.{Create, Bind, Updated, Unbind, Activate, Modified, Deactivate, Destroy}
use Rattle.callback_orders.specs.declared.callback.Outcome.TheVariants.{Done, Refused, NoMemory}
use Rattle.service_listeners.specs.declared.listener.ServiceEvent.{ServiceEvent}
use Rattle.scr_world.specs.declared.step.Step.TheVariants.{Command as Commanded, Begin, End, Drained, Got, Released}
use Rattle.scr_world.specs.declared.command.Command.TheVariants.{Install, Update, Start, Stop, Uninstall, Enable, Disable, Register, Unregister, SetProperties, Get, Unget, Listen, Unlisten, Configure, ConfigureFactory, Unconfigure}
use Rattle.scr_world.specs.declared.reply.CoreFault.TheVariants.{NoBundle, NoComponent, WrongState, Stopping, SameName, Cycle, BundlesFull, ComponentsFull, ServicesFull, ConfigurationsFull, ListenersFull, NoService, NotOwner, NotUsing, NoListener, NoConfiguration, BadPid, FactoryClash, ActivationFailed, ActivationNoMemory, JournalFull}
use Rattle.scr_world.specs.declared.reply.Reply.TheVariants.{Done as IsDone, Bundle as InBundle, Service as AsService, Uses as WithUses, Listener as AsListener}
use Rattle.scr_world.specs.Steps.{History}
use Rattle.scr_world.specs.declared.world.World.{World}
use Rattle.journal_examples.proofs.Meanings.{legal_means}
use Rattle.scr_world.specs.Legal.{IsLegal}
use Rattle.journal_examples.proofs.Tests.{worlds, legal, begins, states, quiet_ones, right_ones, asked, replies, bundle_events_at_end, events_at_end, held_at_end, found_at_end, wanted_at, bound_at_end, calm_at_end}
use Rattle.scr_world.specs.Worlds.{satisfied_in}
use Rattle.scr_world.specs.Room.{has_room}
use Rattle.scr_world.specs.Consequences.{stage_in, stage_of, stopped_in, stopped_by, shut_between}
use Rattle.scr_world.specs.Stepping.{world_after_step}
use Rattle.scr_world.specs.Lists.{world_after_entry, world_of}

abbrev doc1 : BundleDoc
doc1 = record { location = (codes "b"); name = (codes "b"); version = record { major = 0; minor = 0; micro = 0; qualifier = [] }; manifest = None; activator = None; descriptions = (record { name = (codes "a"); scope = Singleton; implementation_class = (codes "K"); default_enabled = true; immediate = false; service_interfaces = ((codes "X") ∷ (codes "Y") ∷ []); properties = (record { key = (codes "service.ranking"); value = (Whole (pos 1)) } ∷ []); references = []; modified = None; configuration_policy = Optional; configuration_pids = ((codes "a") ∷ []); implicit = true } ∷ record { name = (codes "b"); scope = Singleton; implementation_class = (codes "K"); default_enabled = true; immediate = false; service_interfaces = ((codes "X") ∷ []); properties = []; references = (record { name = (codes "y"); interface_name = (codes "Y"); cardinality = ZeroOrOne; policy = Dynamic; policy_option = Reluctant; target = None; updated = None } ∷ []); modified = None; configuration_policy = Optional; configuration_pids = ((codes "b") ∷ []); implicit = true } ∷ record { name = (codes "c"); scope = Singleton; implementation_class = (codes "K"); default_enabled = true; immediate = true; service_interfaces = []; properties = []; references = (record { name = (codes "x"); interface_name = (codes "X"); cardinality = One; policy = Dynamic; policy_option = Greedy; target = None; updated = None } ∷ []); modified = None; configuration_policy = Optional; configuration_pids = ((codes "c") ∷ []); implicit = true } ∷ []) }

abbrev past0 : History
past0 = []

abbrev past1 : History
past1 = record { step = (Commanded (Install doc1)); closed = []; opened = []; stopped = [] } ∷ past0

abbrev past2 : History
past2 = record { step = (Commanded (Start 1)); closed = []; opened = (record { configuration = 1; service = 1 } ∷ record { configuration = 2; service = 2 } ∷ record { configuration = 3; service = 0 } ∷ []); stopped = [] } ∷ past1

abbrev past3 : History
past3 = record { step = (Begin 1 1 3 0 Create []); closed = []; opened = []; stopped = [] } ∷ past2

abbrev past4 : History
past4 = record { step = (End 1 Done); closed = []; opened = []; stopped = [] } ∷ past3

abbrev past5 : History
past5 = record { step = (Begin 2 2 1 0 Create []); closed = []; opened = []; stopped = [] } ∷ past4

abbrev past6 : History
past6 = record { step = (End 2 Done); closed = []; opened = []; stopped = [] } ∷ past5

abbrev past7 : History
past7 = record { step = (Begin 3 2 1 0 Activate []); closed = []; opened = []; stopped = [] } ∷ past6

abbrev past8 : History
past8 = record { step = (End 3 Done); closed = []; opened = []; stopped = [] } ∷ past7

abbrev past9 : History
past9 = record { step = (Begin 4 1 3 0 (Bind (codes "x") 1) []); closed = []; opened = []; stopped = [] } ∷ past8

abbrev past10 : History
past10 = record { step = (End 4 Done); closed = []; opened = []; stopped = [] } ∷ past9

abbrev past11 : History
past11 = record { step = (Begin 5 1 3 0 Activate []); closed = []; opened = []; stopped = [] } ∷ past10

abbrev past12 : History
past12 = record { step = (End 5 Done); closed = []; opened = []; stopped = [] } ∷ past11

abbrev past13 : History
past13 = record { step = (Commanded (Configure (codes "a") (record { key = (codes "k"); value = (Whole (pos 1)) } ∷ []))); closed = (1 ∷ []); opened = []; stopped = [] } ∷ past12

abbrev past14 : History
past14 = record { step = (Drained 2); closed = []; opened = []; stopped = [] } ∷ past13

abbrev past15 : History
past15 = record { step = (Begin 6 3 2 0 Create []); closed = []; opened = []; stopped = [] } ∷ past14

abbrev past16 : History
past16 = record { step = (End 6 Done); closed = []; opened = []; stopped = [] } ∷ past15

abbrev past17 : History
past17 = record { step = (Begin 7 3 2 0 Activate []); closed = []; opened = []; stopped = [] } ∷ past16

abbrev past18 : History
past18 = record { step = (End 7 Done); closed = []; opened = []; stopped = [] } ∷ past17

abbrev past19 : History
past19 = record { step = (Begin 8 1 3 0 (Bind (codes "x") 2) []); closed = []; opened = []; stopped = [] } ∷ past18

abbrev past20 : History
past20 = record { step = (End 8 Done); closed = []; opened = []; stopped = [] } ∷ past19

abbrev past21 : History
past21 = record { step = (Begin 9 1 3 0 (Unbind (codes "x") 1) []); closed = []; opened = []; stopped = [] } ∷ past20

abbrev past22 : History
past22 = record { step = (End 9 Done); closed = []; opened = []; stopped = [] } ∷ past21

abbrev past23 : History
past23 = record { step = (Begin 10 2 1 0 Deactivate []); closed = []; opened = []; stopped = [] } ∷ past22

abbrev past24 : History
past24 = record { step = (End 10 Done); closed = []; opened = []; stopped = [] } ∷ past23

abbrev past25 : History
past25 = record { step = (Begin 11 2 1 0 Destroy []); closed = []; opened = []; stopped = [] } ∷ past24

abbrev past26 : History
past26 = record { step = (End 11 Done); closed = []; opened = (record { configuration = 1; service = 3 } ∷ []); stopped = [] } ∷ past25

abbrev past27 : History
past27 = record { step = (Begin 12 4 1 0 Create []); closed = []; opened = []; stopped = [] } ∷ past26

abbrev past28 : History
past28 = record { step = (End 12 Done); closed = []; opened = []; stopped = [] } ∷ past27

abbrev past29 : History
past29 = record { step = (Begin 13 4 1 0 Activate []); closed = []; opened = []; stopped = [] } ∷ past28

abbrev past30 : History
past30 = record { step = (End 13 Done); closed = []; opened = []; stopped = [] } ∷ past29

abbrev past31 : History
past31 = record { step = (Begin 14 1 3 0 (Bind (codes "x") 3) []); closed = []; opened = []; stopped = [] } ∷ past30

abbrev past32 : History
past32 = record { step = (End 14 Done); closed = []; opened = []; stopped = [] } ∷ past31

abbrev past33 : History
past33 = record { step = (Begin 15 1 3 0 (Unbind (codes "x") 2) []); closed = []; opened = []; stopped = [] } ∷ past32

abbrev past34 : History
past34 = record { step = (End 15 Done); closed = []; opened = []; stopped = [] } ∷ past33

abbrev past35 : History
past35 = record { step = (Begin 16 3 2 0 (Bind (codes "y") 3) []); closed = []; opened = []; stopped = [] } ∷ past34

abbrev past36 : History
past36 = record { step = (End 16 Done); closed = []; opened = []; stopped = [] } ∷ past35

abbrev all : List World
all = worlds past36

is_legal : legal 4194304 past36 all ≡ true
unfolding world_after_entry world_of world_after_step stage_in stage_of stopped_in stopped_by shut_between has_room satisfied_in
is_legal = refl

stands_legal : IsLegal 4194304 past36
stands_legal = legal_means 4194304 past36 is_legal

which_begin : begins all ≡ (None ∷ None ∷ (Some (Begin 16 3 2 0 (Bind (codes "y") 3) [])) ∷ (Some (Begin 16 3 2 0 (Bind (codes "y") 3) [])) ∷ (Some (Begin 15 1 3 0 (Unbind (codes "x") 2) [])) ∷ (Some (Begin 15 3 2 0 (Bind (codes "y") 3) [])) ∷ (Some (Begin 14 1 3 0 (Bind (codes "x") 3) [])) ∷ None ∷ (Some (Begin 13 4 1 0 Activate [])) ∷ None ∷ (Some (Begin 12 4 1 0 Create [])) ∷ None ∷ (Some (Begin 11 2 1 0 Destroy [])) ∷ None ∷ (Some (Begin 10 2 1 0 Deactivate [])) ∷ None ∷ (Some (Begin 9 1 3 0 (Unbind (codes "x") 1) [])) ∷ None ∷ (Some (Begin 8 1 3 0 (Bind (codes "x") 2) [])) ∷ None ∷ (Some (Begin 7 3 2 0 Activate [])) ∷ None ∷ (Some (Begin 6 3 2 0 Create [])) ∷ (Some (Begin 6 3 2 0 Create [])) ∷ None ∷ None ∷ (Some (Begin 5 1 3 0 Activate [])) ∷ None ∷ (Some (Begin 4 1 3 0 (Bind (codes "x") 1) [])) ∷ None ∷ (Some (Begin 3 2 1 0 Activate [])) ∷ None ∷ (Some (Begin 2 2 1 0 Create [])) ∷ (Some (Begin 2 2 1 0 Create [])) ∷ (Some (Begin 1 1 3 0 Create [])) ∷ None ∷ None ∷ [])
unfolding world_after_entry world_of world_after_step stage_in stage_of stopped_in stopped_by shut_between has_room satisfied_in
which_begin = refl

which_states : states all ≡ (((1, 8) ∷ (2, 8) ∷ (3, 8) ∷ []) ∷ ((1, 8) ∷ (2, 8) ∷ (3, 8) ∷ []) ∷ ((1, 8) ∷ (2, 8) ∷ (3, 8) ∷ []) ∷ ((1, 8) ∷ (2, 8) ∷ (3, 8) ∷ []) ∷ ((1, 8) ∷ (2, 8) ∷ (3, 8) ∷ []) ∷ ((1, 8) ∷ (2, 8) ∷ (3, 8) ∷ []) ∷ ((1, 8) ∷ (2, 8) ∷ (3, 8) ∷ []) ∷ ((1, 4) ∷ (2, 8) ∷ (3, 8) ∷ []) ∷ ((1, 4) ∷ (2, 8) ∷ (3, 8) ∷ []) ∷ ((1, 4) ∷ (2, 8) ∷ (3, 8) ∷ []) ∷ ((1, 4) ∷ (2, 8) ∷ (3, 8) ∷ []) ∷ ((1, 4) ∷ (2, 8) ∷ (3, 8) ∷ []) ∷ ((1, 4) ∷ (2, 8) ∷ (3, 8) ∷ []) ∷ ((1, 4) ∷ (2, 8) ∷ (3, 8) ∷ []) ∷ ((1, 4) ∷ (2, 8) ∷ (3, 8) ∷ []) ∷ ((1, 4) ∷ (2, 8) ∷ (3, 8) ∷ []) ∷ ((1, 4) ∷ (2, 8) ∷ (3, 8) ∷ []) ∷ ((1, 4) ∷ (2, 8) ∷ (3, 8) ∷ []) ∷ ((1, 4) ∷ (2, 8) ∷ (3, 8) ∷ []) ∷ ((1, 4) ∷ (2, 4) ∷ (3, 8) ∷ []) ∷ ((1, 4) ∷ (2, 4) ∷ (3, 8) ∷ []) ∷ ((1, 4) ∷ (2, 4) ∷ (3, 8) ∷ []) ∷ ((1, 4) ∷ (2, 4) ∷ (3, 8) ∷ []) ∷ ((1, 4) ∷ (2, 4) ∷ (3, 8) ∷ []) ∷ ((1, 8) ∷ (2, 4) ∷ (3, 8) ∷ []) ∷ ((1, 8) ∷ (2, 4) ∷ (3, 4) ∷ []) ∷ ((1, 8) ∷ (2, 4) ∷ (3, 4) ∷ []) ∷ ((1, 8) ∷ (2, 4) ∷ (3, 4) ∷ []) ∷ ((1, 8) ∷ (2, 4) ∷ (3, 4) ∷ []) ∷ ((1, 4) ∷ (2, 4) ∷ (3, 4) ∷ []) ∷ ((1, 4) ∷ (2, 4) ∷ (3, 4) ∷ []) ∷ ((1, 4) ∷ (2, 4) ∷ (3, 4) ∷ []) ∷ ((1, 4) ∷ (2, 4) ∷ (3, 4) ∷ []) ∷ ((1, 4) ∷ (2, 4) ∷ (3, 4) ∷ []) ∷ ((1, 4) ∷ (2, 4) ∷ (3, 4) ∷ []) ∷ [] ∷ [] ∷ [])
unfolding world_after_entry world_of world_after_step stage_in stage_of stopped_in stopped_by shut_between has_room satisfied_in
which_states = refl

which_quiet : quiet_ones all ≡ (true ∷ false ∷ false ∷ false ∷ false ∷ false ∷ false ∷ false ∷ false ∷ false ∷ false ∷ false ∷ false ∷ false ∷ false ∷ false ∷ false ∷ false ∷ false ∷ false ∷ false ∷ false ∷ false ∷ false ∷ true ∷ false ∷ false ∷ false ∷ false ∷ false ∷ false ∷ false ∷ false ∷ false ∷ false ∷ true ∷ true ∷ [])
unfolding world_after_entry world_of world_after_step stage_in stage_of stopped_in stopped_by shut_between has_room satisfied_in
which_quiet = refl

which_right : right_ones all ≡ (true ∷ true ∷ false ∷ false ∷ false ∷ false ∷ false ∷ false ∷ false ∷ false ∷ false ∷ false ∷ false ∷ false ∷ false ∷ false ∷ false ∷ false ∷ false ∷ false ∷ false ∷ false ∷ false ∷ false ∷ true ∷ false ∷ false ∷ false ∷ false ∷ false ∷ false ∷ false ∷ false ∷ false ∷ false ∷ true ∷ true ∷ [])
unfolding world_after_entry world_of world_after_step stage_in stage_of stopped_in stopped_by shut_between has_room satisfied_in
which_right = refl

which_wanted : wanted_at all ≡ ((record { configuration = 1; consumer = 0 } ∷ record { configuration = 3; consumer = 0 } ∷ []) ∷ (record { configuration = 1; consumer = 0 } ∷ record { configuration = 3; consumer = 0 } ∷ []) ∷ (record { configuration = 1; consumer = 0 } ∷ record { configuration = 3; consumer = 0 } ∷ []) ∷ (record { configuration = 1; consumer = 0 } ∷ record { configuration = 3; consumer = 0 } ∷ []) ∷ (record { configuration = 1; consumer = 0 } ∷ record { configuration = 3; consumer = 0 } ∷ []) ∷ (record { configuration = 1; consumer = 0 } ∷ record { configuration = 3; consumer = 0 } ∷ []) ∷ (record { configuration = 1; consumer = 0 } ∷ record { configuration = 3; consumer = 0 } ∷ []) ∷ (record { configuration = 1; consumer = 0 } ∷ record { configuration = 3; consumer = 0 } ∷ []) ∷ (record { configuration = 1; consumer = 0 } ∷ record { configuration = 3; consumer = 0 } ∷ []) ∷ (record { configuration = 1; consumer = 0 } ∷ record { configuration = 3; consumer = 0 } ∷ []) ∷ (record { configuration = 1; consumer = 0 } ∷ record { configuration = 3; consumer = 0 } ∷ []) ∷ (record { configuration = 2; consumer = 0 } ∷ record { configuration = 3; consumer = 0 } ∷ []) ∷ (record { configuration = 2; consumer = 0 } ∷ record { configuration = 3; consumer = 0 } ∷ []) ∷ (record { configuration = 2; consumer = 0 } ∷ record { configuration = 3; consumer = 0 } ∷ []) ∷ (record { configuration = 2; consumer = 0 } ∷ record { configuration = 3; consumer = 0 } ∷ []) ∷ (record { configuration = 2; consumer = 0 } ∷ record { configuration = 3; consumer = 0 } ∷ []) ∷ (record { configuration = 2; consumer = 0 } ∷ record { configuration = 3; consumer = 0 } ∷ []) ∷ (record { configuration = 2; consumer = 0 } ∷ record { configuration = 3; consumer = 0 } ∷ []) ∷ (record { configuration = 2; consumer = 0 } ∷ record { configuration = 3; consumer = 0 } ∷ []) ∷ (record { configuration = 2; consumer = 0 } ∷ record { configuration = 3; consumer = 0 } ∷ []) ∷ (record { configuration = 2; consumer = 0 } ∷ record { configuration = 3; consumer = 0 } ∷ []) ∷ (record { configuration = 2; consumer = 0 } ∷ record { configuration = 3; consumer = 0 } ∷ []) ∷ (record { configuration = 2; consumer = 0 } ∷ record { configuration = 3; consumer = 0 } ∷ []) ∷ (record { configuration = 2; consumer = 0 } ∷ record { configuration = 3; consumer = 0 } ∷ []) ∷ (record { configuration = 1; consumer = 0 } ∷ record { configuration = 3; consumer = 0 } ∷ []) ∷ (record { configuration = 1; consumer = 0 } ∷ record { configuration = 3; consumer = 0 } ∷ []) ∷ (record { configuration = 1; consumer = 0 } ∷ record { configuration = 3; consumer = 0 } ∷ []) ∷ (record { configuration = 1; consumer = 0 } ∷ record { configuration = 3; consumer = 0 } ∷ []) ∷ (record { configuration = 1; consumer = 0 } ∷ record { configuration = 3; consumer = 0 } ∷ []) ∷ (record { configuration = 1; consumer = 0 } ∷ record { configuration = 3; consumer = 0 } ∷ []) ∷ (record { configuration = 1; consumer = 0 } ∷ record { configuration = 3; consumer = 0 } ∷ []) ∷ (record { configuration = 1; consumer = 0 } ∷ record { configuration = 3; consumer = 0 } ∷ []) ∷ (record { configuration = 1; consumer = 0 } ∷ record { configuration = 3; consumer = 0 } ∷ []) ∷ (record { configuration = 1; consumer = 0 } ∷ record { configuration = 3; consumer = 0 } ∷ []) ∷ (record { configuration = 3; consumer = 0 } ∷ []) ∷ [] ∷ [] ∷ [])
unfolding world_after_entry world_of world_after_step stage_in stage_of stopped_in stopped_by shut_between has_room satisfied_in
which_wanted = refl

which_replies : replies 4194304 all (asked 0 (Install doc1) ∷ asked 1 (Start 1) ∷ asked 12 (Configure (codes "a") (record { key = (codes "k"); value = (Whole (pos 1)) } ∷ [])) ∷ []) ≡ ((Ok (InBundle 1)) ∷ (Ok IsDone) ∷ (Ok IsDone) ∷ [])
unfolding world_after_entry world_of world_after_step stage_in stage_of stopped_in stopped_by shut_between has_room satisfied_in
which_replies = refl

bundle_events : bundle_events_at_end all ≡ (record { value = 1; bundle = 1 } ∷ record { value = 32; bundle = 1 } ∷ record { value = 128; bundle = 1 } ∷ record { value = 2; bundle = 1 } ∷ [])
unfolding world_after_entry world_of world_after_step stage_in stage_of stopped_in stopped_by shut_between has_room satisfied_in
bundle_events = refl

held_1 : held_at_end 1 all ≡ []
unfolding world_after_entry world_of world_after_step stage_in stage_of stopped_in stopped_by shut_between has_room satisfied_in
held_1 = refl

held_2 : held_at_end 2 all ≡ (record { instance = 3; reference = (codes "y"); service = 3 } ∷ [])
unfolding world_after_entry world_of world_after_step stage_in stage_of stopped_in stopped_by shut_between has_room satisfied_in
held_2 = refl

held_3 : held_at_end 3 all ≡ (record { instance = 1; reference = (codes "x"); service = 3 } ∷ [])
unfolding world_after_entry world_of world_after_step stage_in stage_of stopped_in stopped_by shut_between has_room satisfied_in
held_3 = refl

bound_is : bound_at_end all ≡ 126
unfolding world_after_entry world_of world_after_step stage_in stage_of stopped_in stopped_by shut_between has_room satisfied_in
bound_is = refl

calm_is : calm_at_end all ≡ true
unfolding world_after_entry world_of world_after_step stage_in stage_of stopped_in stopped_by shut_between has_room satisfied_in
calm_is = refl
