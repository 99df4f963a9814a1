-- A consumer that is ending desires nothing: the key of its choice isn't wanted any more.
use Rattle.std.specs.Prelude.{◌≡◌, refl, ℕ, List, [], ◌∷◌, codes, true, false, Some, None, Ok, Err, pos, negsuc}
use Rattle.prop_map.specs.declared.value.Value.TheVariants.{Text, Whole, Flag, Texts, Wholes, Flags}
use Rattle.prop_map.specs.declared.reference_words.Cardinality.TheVariants.{ZeroOrOne, One, ZeroOrMore, OneOrMore}
use Rattle.prop_map.specs.declared.reference_words.Policy.TheVariants.{Static, Dynamic}
use Rattle.prop_map.specs.declared.reference_words.PolicyOption.TheVariants.{Reluctant, Greedy}
use Rattle.component_dto.specs.declared.description.Scope.TheVariants.{Singleton, Bundle as InBundleScope, Prototype}
use Rattle.component_dto.specs.declared.description.ConfigurationPolicy.TheVariants.{Optional, Require, Ignore}
use Rattle.bundle_doc.specs.declared.document.BundleDoc.{BundleDoc}
use Rattle.bundle_life.specs.declared.bundle.BundleEvent.{BundleEvent}
use Rattle.journal_examples.proofs.Trees.{tree_or_none}
use Rattle.callback_orders.specs.declared.callback.Callback.TheVariants.{Create, Bind, Updated, Unbind, Activate, Modified, Deactivate, Destroy}
use Rattle.callback_orders.specs.declared.callback.Outcome.TheVariants.{Done, Refused, NoMemory}
use Rattle.service_listeners.specs.declared.listener.ServiceEvent.{ServiceEvent}
use Rattle.scr_world.specs.declared.step.Step.TheVariants.{Command as Commanded, Begin, End, Drained, Got, Released}
use Rattle.scr_world.specs.declared.command.Command.TheVariants.{Install, Update, Start, Stop, Uninstall, Enable, Disable, Register, Unregister, SetProperties, Get, Unget, Listen, Unlisten, Configure, ConfigureFactory, Unconfigure}
use Rattle.scr_world.specs.declared.reply.CoreFault.TheVariants.{NoBundle, NoComponent, WrongState, Stopping, SameName, Cycle, BundlesFull, ComponentsFull, ServicesFull, ConfigurationsFull, ListenersFull, NoService, NotOwner, NotUsing, NoListener, NoConfiguration, BadPid, FactoryClash, ActivationFailed, ActivationNoMemory, JournalFull}
use Rattle.scr_world.specs.declared.reply.Reply.TheVariants.{Done as IsDone, Bundle as InBundle, Service as AsService, Uses as WithUses, Listener as AsListener}
use Rattle.scr_world.specs.Steps.{History}
use Rattle.scr_world.specs.declared.world.World.{World}
use Rattle.journal_examples.proofs.Laws.{laws}
use Rattle.journal_examples.proofs.Meanings.{legal_means}
use Rattle.scr_world.specs.Legal.{IsLegal}
use Rattle.journal_examples.proofs.Tests.{worlds, legal, begins, states, quiet_ones, right_ones, asked, replies, bundle_events_at_end, events_at_end, held_at_end, found_at_end, wanted_at, bound_at_end, calm_at_end}
use Rattle.scr_world.specs.Worlds.{satisfied_in}
use Rattle.scr_world.specs.Room.{has_room, needed_by}
use Rattle.scr_world.specs.Consequences.{stage_in, stage_of, stopped_in, stopped_by, shut_between}
use Rattle.scr_world.specs.Stepping.{world_after_step}
use Rattle.scr_world.specs.Lists.{world_after_entry, world_of}
use Rattle.journal_examples.proofs.Tests.{may_come, newest}
use Rattle.std.specs.Prelude.{map}
use Rattle.scr_world.specs.Wanted.{wanted}

abbrev doc1 : BundleDoc
doc1 = record { location = (codes "w"); name = (codes "w"); version = record { major = 0; minor = 0; micro = 0; qualifier = [] }; manifest = None; activator = None; descriptions = (record { name = (codes "p"); scope = Singleton; implementation_class = (codes "K"); default_enabled = true; immediate = false; service_interfaces = ((codes "P") ∷ []); properties = []; references = []; modified = None; configuration_policy = Optional; configuration_pids = ((codes "p") ∷ []); implicit = true } ∷ record { name = (codes "c"); scope = Singleton; implementation_class = (codes "K"); default_enabled = true; immediate = true; service_interfaces = []; properties = []; references = (record { name = (codes "x"); interface_name = (codes "P"); cardinality = One; policy = Static; policy_option = Reluctant; target = None; updated = None } ∷ []); modified = None; configuration_policy = Optional; configuration_pids = ((codes "c") ∷ []); implicit = true } ∷ record { name = (codes "f"); scope = Singleton; implementation_class = (codes "K"); default_enabled = true; immediate = true; service_interfaces = ((codes "F") ∷ []); properties = []; references = []; modified = None; configuration_policy = Optional; configuration_pids = ((codes "f") ∷ []); implicit = true } ∷ []) }

abbrev past0 : History
past0 = []

abbrev past1 : History
past1 = record { step = (Commanded (Install doc1)); closed = []; opened = []; stopped = [] } ∷ past0

abbrev past2 : History
past2 = record { step = (Commanded (Start 1)); closed = []; opened = (record { configuration = 1; service = 1 } ∷ record { configuration = 3; service = 2 } ∷ record { configuration = 2; service = 0 } ∷ []); stopped = [] } ∷ past1

abbrev past3 : History
past3 = record { step = (Begin 1 1 2 0 Create (record { reference = 0; services = (1 ∷ []) } ∷ [])); closed = []; opened = []; stopped = [] } ∷ past2

abbrev past4 : History
past4 = record { step = (Commanded (Disable 1 (codes "c"))); closed = (2 ∷ []); opened = []; stopped = [] } ∷ past3

abbrev past5 : History
past5 = record { step = (Commanded (Disable 1 (codes "f"))); closed = (3 ∷ []); opened = []; stopped = [] } ∷ past4

abbrev past6 : History
past6 = record { step = (End 1 Done); closed = []; opened = []; stopped = [] } ∷ past5

abbrev past7 : History
past7 = record { step = (Begin 2 1 2 0 Destroy []); closed = []; opened = []; stopped = [] } ∷ past6

abbrev all : List World
all = worlds past7

is_legal : legal 4194304 past7 all ≡ true
unfolding world_after_entry world_of world_after_step stage_in stage_of stopped_in stopped_by shut_between has_room satisfied_in
is_legal = refl

stands_legal : IsLegal 4194304 past7
stands_legal = legal_means 4194304 past7 is_legal

begin_end : begins (newest all ∷ []) ≡ (None ∷ [])
unfolding world_after_entry world_of world_after_step stage_in stage_of stopped_in stopped_by shut_between has_room satisfied_in
begin_end = refl

keys_end : map (λ (w : World). wanted w) (newest all ∷ []) ≡ ([] ∷ [])
unfolding world_after_entry world_of world_after_step stage_in stage_of stopped_in stopped_by shut_between has_room satisfied_in
keys_end = refl

laws_hold : laws past7 all ≡ true
unfolding world_after_entry world_of world_after_step stage_in stage_of stopped_in stopped_by shut_between has_room satisfied_in
laws_hold = refl
