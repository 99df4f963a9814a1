-- Policy `ignore`; the first PID with factory configurations; a target by configuration over the description's; Activate ends Done when its instance ends already.
use Rattle.std.specs.Prelude.{◌≡◌, refl, ℕ, List, [], ◌∷◌, codes, true, false, Some, None, Ok, Err, pos, negsuc}
use Rattle.prop_map.specs.declared.value.Value.TheVariants.{Text, Whole, Flag, Texts, Wholes, Flags}
use Rattle.prop_map.specs.declared.reference_words.Cardinality.TheVariants.{ZeroOrOne, One, ZeroOrMore, OneOrMore}
use Rattle.prop_map.specs.declared.reference_words.Policy.TheVariants.{Static, Dynamic}
use Rattle.prop_map.specs.declared.reference_words.PolicyOption.TheVariants.{Reluctant, Greedy}
use Rattle.component_dto.specs.declared.description.Scope.TheVariants.{Singleton, Bundle as InBundleScope, Prototype}
use Rattle.component_dto.specs.declared.description.ConfigurationPolicy.TheVariants.{Optional, Require, Ignore}
use Rattle.bundle_doc.specs.declared.document.BundleDoc.{BundleDoc}
use Rattle.bundle_life.specs.declared.bundle.BundleEvent.{BundleEvent}
use Rattle.journal_examples.proofs.Trees.{tree_or_none}
use Rattle.callback_orders.specs.declared.callback.Callback.TheVariants.{Create, Bind, Updated, Unbind, Activate, Modified, Deactivate, Destroy}
use Rattle.callback_orders.specs.declared.callback.Outcome.TheVariants.{Done, Refused, NoMemory}
use Rattle.service_listeners.specs.declared.listener.ServiceEvent.{ServiceEvent}
use Rattle.scr_world.specs.declared.step.Step.TheVariants.{Command as Commanded, Begin, End, Drained, Got, Released}
use Rattle.scr_world.specs.declared.command.Command.TheVariants.{Install, Update, Start, Stop, Uninstall, Enable, Disable, Register, Unregister, SetProperties, Get, Unget, Listen, Unlisten, Configure, ConfigureFactory, Unconfigure}
use Rattle.scr_world.specs.declared.reply.CoreFault.TheVariants.{NoBundle, NoComponent, WrongState, Stopping, SameName, Cycle, BundlesFull, ComponentsFull, ServicesFull, ConfigurationsFull, ListenersFull, NoService, NotOwner, NotUsing, NoListener, NoConfiguration, BadPid, FactoryClash, ActivationFailed, ActivationNoMemory, JournalFull}
use Rattle.scr_world.specs.declared.reply.Reply.TheVariants.{Done as IsDone, Bundle as InBundle, Service as AsService, Uses as WithUses, Listener as AsListener}
use Rattle.scr_world.specs.Steps.{History}
use Rattle.scr_world.specs.declared.world.World.{World}
use Rattle.journal_examples.proofs.Laws.{laws}
use Rattle.journal_examples.proofs.Meanings.{legal_means}
use Rattle.scr_world.specs.Legal.{IsLegal}
use Rattle.journal_examples.proofs.Tests.{worlds, legal, begins, states, quiet_ones, right_ones, asked, replies, bundle_events_at_end, events_at_end, held_at_end, found_at_end, wanted_at, bound_at_end, calm_at_end}
use Rattle.scr_world.specs.Worlds.{satisfied_in}
use Rattle.scr_world.specs.Room.{has_room, needed_by}
use Rattle.scr_world.specs.Consequences.{stage_in, stage_of, stopped_in, stopped_by, shut_between}
use Rattle.scr_world.specs.Stepping.{world_after_step}
use Rattle.scr_world.specs.Lists.{world_after_entry, world_of}
use Rattle.journal_examples.proofs.Tests.{may_come, newest}
use Rattle.std.specs.Prelude.{map}
use Rattle.scr_world.specs.declared.instance.Instance.{Instance}
use Rattle.scr_world.specs.Legal.{awaits_drain}
use Rattle.std.specs.Prelude.{◌+◌, ◌*◌}

abbrev doc1 : BundleDoc
doc1 = record { location = (codes "d"); name = (codes "d"); version = record { major = 0; minor = 0; micro = 0; qualifier = [] }; manifest = None; activator = None; descriptions = [] }

abbrev doc2 : BundleDoc
doc2 = record { location = (codes "w"); name = (codes "w"); version = record { major = 0; minor = 0; micro = 0; qualifier = [] }; manifest = None; activator = None; descriptions = (record { name = (codes "i"); scope = Singleton; implementation_class = (codes "K"); default_enabled = true; immediate = true; service_interfaces = []; properties = []; references = []; modified = None; configuration_policy = Ignore; configuration_pids = ((codes "i") ∷ []); implicit = true } ∷ record { name = (codes "f"); scope = Singleton; implementation_class = (codes "K"); default_enabled = true; immediate = true; service_interfaces = []; properties = []; references = []; modified = None; configuration_policy = Optional; configuration_pids = ((codes "a") ∷ (codes "b") ∷ []); implicit = true } ∷ record { name = (codes "t"); scope = Singleton; implementation_class = (codes "K"); default_enabled = true; immediate = true; service_interfaces = []; properties = (record { key = (codes "x.target"); value = (Text (codes "(v=2)")) } ∷ []); references = (record { name = (codes "x"); interface_name = (codes "X"); cardinality = One; policy = Static; policy_option = Reluctant; target = (Some (codes "(v=1)")); updated = None } ∷ []); modified = None; configuration_policy = Optional; configuration_pids = ((codes "t") ∷ []); implicit = true } ∷ []) }

abbrev past0 : History
past0 = []

abbrev past1 : History
past1 = record { step = (Commanded (Install doc1)); closed = []; opened = []; stopped = [] } ∷ past0

abbrev past2 : History
past2 = record { step = (Commanded (Start 1)); closed = []; opened = []; stopped = [] } ∷ past1

abbrev past3 : History
past3 = record { step = (Commanded (Register 1 ((codes "X") ∷ []) (record { key = (codes "v"); value = (Whole (pos 2)) } ∷ []))); closed = []; opened = []; stopped = [] } ∷ past2

abbrev past4 : History
past4 = record { step = (Commanded (ConfigureFactory (codes "i") (codes "n") [])); closed = []; opened = []; stopped = [] } ∷ past3

abbrev past5 : History
past5 = record { step = (Commanded (ConfigureFactory (codes "b") (codes "n") [])); closed = []; opened = []; stopped = [] } ∷ past4

abbrev past6 : History
past6 = record { step = (Commanded (Install doc2)); closed = []; opened = []; stopped = [] } ∷ past5

abbrev past7 : History
past7 = record { step = (Commanded (Start 2)); closed = []; opened = (record { configuration = 1; service = 0 } ∷ record { configuration = 2; service = 0 } ∷ record { configuration = 3; service = 0 } ∷ []); stopped = [] } ∷ past6

abbrev past8 : History
past8 = record { step = (Commanded (ConfigureFactory (codes "a") (codes "n") [])); closed = (2 ∷ []); opened = (record { configuration = 4; service = 0 } ∷ []); stopped = [] } ∷ past7

abbrev past9 : History
past9 = record { step = (Commanded (Unconfigure (codes "b~n"))); closed = []; opened = []; stopped = [] } ∷ past8

abbrev past10 : History
past10 = record { step = (Commanded (Configure (codes "t") (record { key = (codes "x.target"); value = (Text (codes "(v=3)")) } ∷ []))); closed = (3 ∷ []); opened = []; stopped = [] } ∷ past9

abbrev past11 : History
past11 = record { step = (Begin 1 1 1 0 Create []); closed = []; opened = []; stopped = [] } ∷ past10

abbrev past12 : History
past12 = record { step = (End 1 Done); closed = []; opened = []; stopped = [] } ∷ past11

abbrev past13 : History
past13 = record { step = (Begin 2 1 1 0 Activate []); closed = []; opened = []; stopped = [] } ∷ past12

abbrev past14 : History
past14 = record { step = (End 2 Done); closed = []; opened = []; stopped = [] } ∷ past13

abbrev past15 : History
past15 = record { step = (Begin 3 2 4 0 Create []); closed = []; opened = []; stopped = [] } ∷ past14

abbrev past16 : History
past16 = record { step = (End 3 Done); closed = []; opened = []; stopped = [] } ∷ past15

abbrev past17 : History
past17 = record { step = (Begin 4 2 4 0 Activate []); closed = []; opened = []; stopped = [] } ∷ past16

abbrev past18 : History
past18 = record { step = (Commanded (Stop 2)); closed = (1 ∷ 4 ∷ []); opened = []; stopped = [] } ∷ past17

abbrev past19 : History
past19 = record { step = (End 4 Done); closed = []; opened = []; stopped = [] } ∷ past18

abbrev all : List World
all = worlds past19

is_legal : legal 4194304 past19 all ≡ true
unfolding world_after_entry world_of world_after_step stage_in stage_of stopped_in stopped_by shut_between has_room satisfied_in
is_legal = refl

stands_legal : IsLegal 4194304 past19
stands_legal = legal_means 4194304 past19 is_legal

keys : map (λ (w : World). map (λ (i : Instance). i.slot * 10 + i.generation) w.instances) (newest all ∷ []) ≡ ((1 ∷ 11 ∷ []) ∷ [])
unfolding world_after_entry world_of world_after_step stage_in stage_of stopped_in stopped_by shut_between has_room satisfied_in
keys = refl

awaits : map (λ (w : World). map (awaits_drain w) w.instances) (newest all ∷ []) ≡ ((true ∷ true ∷ []) ∷ [])
unfolding world_after_entry world_of world_after_step stage_in stage_of stopped_in stopped_by shut_between has_room satisfied_in
awaits = refl

replies_end : replies 4194304 all (asked 9 (Configure (codes "a") []) ∷ asked 9 (Configure (codes "b") []) ∷ asked 9 (Unconfigure (codes "b~n")) ∷ asked 9 (ConfigureFactory (codes "t") (codes "n") []) ∷ asked 10 (ConfigureFactory (codes "t") (codes "n") []) ∷ []) ≡ ((Err FactoryClash) ∷ (Ok IsDone) ∷ (Err NoConfiguration) ∷ (Ok IsDone) ∷ (Err FactoryClash) ∷ [])
unfolding world_after_entry world_of world_after_step stage_in stage_of stopped_in stopped_by shut_between has_room satisfied_in
replies_end = refl

laws_hold : laws past19 all ≡ true
unfolding world_after_entry world_of world_after_step stage_in stage_of stopped_in stopped_by shut_between has_room satisfied_in
laws_hold = refl
