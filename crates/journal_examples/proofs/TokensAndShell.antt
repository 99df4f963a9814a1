-- A token ends with its bundle's stop, and its room comes back; Unget never ends a token.
use Rattle.std.specs.Prelude.{◌≡◌, refl, ℕ, List, [], ◌∷◌, codes, true, false, Some, None, Ok, Err, pos, negsuc}
use Rattle.prop_map.specs.declared.value.Value.TheVariants.{Text, Whole, Flag, Texts, Wholes, Flags}
use Rattle.prop_map.specs.declared.reference_words.Cardinality.TheVariants.{ZeroOrOne, One, ZeroOrMore, OneOrMore}
use Rattle.prop_map.specs.declared.reference_words.Policy.TheVariants.{Static, Dynamic}
use Rattle.prop_map.specs.declared.reference_words.PolicyOption.TheVariants.{Reluctant, Greedy}
use Rattle.component_dto.specs.declared.description.Scope.TheVariants.{Singleton, Bundle as InBundleScope, Prototype}
use Rattle.component_dto.specs.declared.description.ConfigurationPolicy.TheVariants.{Optional, Require, Ignore}
use Rattle.bundle_doc.specs.declared.document.BundleDoc.{BundleDoc}
use Rattle.bundle_life.specs.declared.bundle.BundleEvent.{BundleEvent}
use Rattle.journal_examples.proofs.Trees.{tree_or_none}
use Rattle.callback_orders.specs.declared.callback.Callback.TheVariants.{Create, Bind, Updated, Unbind, Activate, Modified, Deactivate, Destroy}
use Rattle.callback_orders.specs.declared.callback.Outcome.TheVariants.{Done, Refused, NoMemory}
use Rattle.service_listeners.specs.declared.listener.ServiceEvent.{ServiceEvent}
use Rattle.scr_world.specs.declared.step.Step.TheVariants.{Command as Commanded, Begin, End, Drained, Got, Released}
use Rattle.scr_world.specs.declared.command.Command.TheVariants.{Install, Update, Start, Stop, Uninstall, Enable, Disable, Register, Unregister, SetProperties, Get, Unget, Listen, Unlisten, Configure, ConfigureFactory, Unconfigure}
use Rattle.scr_world.specs.declared.reply.CoreFault.TheVariants.{NoBundle, NoComponent, WrongState, Stopping, SameName, Cycle, BundlesFull, ComponentsFull, ServicesFull, ConfigurationsFull, ListenersFull, NoService, NotOwner, NotUsing, NoListener, NoConfiguration, BadPid, FactoryClash, ActivationFailed, ActivationNoMemory, JournalFull}
use Rattle.scr_world.specs.declared.reply.Reply.TheVariants.{Done as IsDone, Bundle as InBundle, Service as AsService, Uses as WithUses, Listener as AsListener}
use Rattle.scr_world.specs.Steps.{History}
use Rattle.scr_world.specs.declared.marks.Token.{Token}
use Rattle.scr_world.specs.declared.world.World.{World}
use Rattle.journal_examples.proofs.Laws.{laws}
use Rattle.journal_examples.proofs.Meanings.{legal_means}
use Rattle.scr_world.specs.Legal.{IsLegal}
use Rattle.journal_examples.proofs.Tests.{worlds, legal, begins, states, quiet_ones, right_ones, asked, replies, bundle_events_at_end, events_at_end, held_at_end, found_at_end, wanted_at, bound_at_end, calm_at_end}
use Rattle.scr_world.specs.Worlds.{satisfied_in}
use Rattle.scr_world.specs.Room.{has_room, needed_by}
use Rattle.scr_world.specs.Consequences.{stage_in, stage_of, stopped_in, stopped_by, shut_between}
use Rattle.scr_world.specs.Stepping.{world_after_step}
use Rattle.scr_world.specs.Lists.{world_after_entry, world_of}
use Rattle.journal_examples.proofs.Tests.{may_come, newest}
use Rattle.std.specs.Prelude.{map}
use Rattle.scr_world.specs.Calls.{has_token}
use Rattle.scr_world.specs.Room.{reserved}

abbrev doc1 : BundleDoc
doc1 = record { location = (codes "d"); name = (codes "d"); version = record { major = 0; minor = 0; micro = 0; qualifier = [] }; manifest = None; activator = None; descriptions = [] }

abbrev doc2 : BundleDoc
doc2 = record { location = (codes "e"); name = (codes "e"); version = record { major = 0; minor = 0; micro = 0; qualifier = [] }; manifest = None; activator = None; descriptions = [] }

abbrev past0 : History
past0 = []

abbrev past1 : History
past1 = record { step = (Commanded (Install doc1)); closed = []; opened = []; stopped = [] } ∷ past0

abbrev past2 : History
past2 = record { step = (Commanded (Start 1)); closed = []; opened = []; stopped = [] } ∷ past1

abbrev past3 : History
past3 = record { step = (Commanded (Install doc2)); closed = []; opened = []; stopped = [] } ∷ past2

abbrev past4 : History
past4 = record { step = (Commanded (Start 2)); closed = []; opened = []; stopped = [] } ∷ past3

abbrev past5 : History
past5 = record { step = (Commanded (Register 1 ((codes "X") ∷ []) [])); closed = []; opened = []; stopped = [] } ∷ past4

abbrev past6 : History
past6 = record { step = (Got 2 1); closed = []; opened = []; stopped = [] } ∷ past5

abbrev past7 : History
past7 = record { step = (Got 2 1); closed = []; opened = []; stopped = [] } ∷ past6

abbrev past8 : History
past8 = record { step = (Commanded (Get 2 1)); closed = []; opened = []; stopped = [] } ∷ past7

abbrev past9 : History
past9 = record { step = (Commanded (Unget 2 1)); closed = []; opened = []; stopped = [] } ∷ past8

abbrev past10 : History
past10 = record { step = (Released 6); closed = []; opened = []; stopped = [] } ∷ past9

abbrev past11 : History
past11 = record { step = (Commanded (Stop 2)); closed = []; opened = []; stopped = (2 ∷ []) } ∷ past10

abbrev past12 : History
past12 = record { step = (Commanded (Start 2)); closed = []; opened = []; stopped = [] } ∷ past11

abbrev all : List World
all = worlds past12

is_legal : legal 4194304 past12 all ≡ true
unfolding world_after_entry world_of world_after_step stage_in stage_of stopped_in stopped_by shut_between has_room satisfied_in
is_legal = refl

stands_legal : IsLegal 4194304 past12
stands_legal = legal_means 4194304 past12 is_legal

no_release : map (λ (w : World). may_come w (Released 5)) all ≡ (false ∷ false ∷ true ∷ true ∷ true ∷ true ∷ true ∷ false ∷ false ∷ false ∷ false ∷ false ∷ false ∷ [])
unfolding world_after_entry world_of world_after_step stage_in stage_of stopped_in stopped_by shut_between has_room satisfied_in
no_release = refl

abbrev got : ℕ → Token
got place = record { place = place; bundle = 2; service = 1 }

-- two tokens of one service for one bundle, each at the place of its entry: one is released, the other stays
two_tokens : map (λ (place : ℕ). has_token (newest (worlds past9)) (got place)) (4 ∷ 5 ∷ 6 ∷ 7 ∷ []) ≡ (false ∷ true ∷ true ∷ false ∷ [])
unfolding world_after_entry world_of world_after_step stage_in stage_of stopped_in stopped_by shut_between has_room satisfied_in
two_tokens = refl

one_token : map (λ (place : ℕ). has_token (newest (worlds past10)) (got place)) (5 ∷ 6 ∷ []) ≡ (true ∷ false ∷ [])
unfolding world_after_entry world_of world_after_step stage_in stage_of stopped_in stopped_by shut_between has_room satisfied_in
one_token = refl

room : map (λ (w : World). reserved w) all ≡ (0 ∷ 0 ∷ 1 ∷ 2 ∷ 2 ∷ 2 ∷ 1 ∷ 0 ∷ 0 ∷ 0 ∷ 0 ∷ 0 ∷ 0 ∷ [])
unfolding world_after_entry world_of world_after_step stage_in stage_of stopped_in stopped_by shut_between has_room satisfied_in
room = refl

answers : replies 4194304 all (asked 7 (Unget 2 1) ∷ asked 7 (Get 2 1) ∷ asked 8 (Unget 2 1) ∷ asked 12 (Get 2 1) ∷ asked 12 (Unget 2 1) ∷ []) ≡ ((Err NotUsing) ∷ (Ok (WithUses 3)) ∷ (Ok (WithUses 2)) ∷ (Ok (WithUses 1)) ∷ (Err NotUsing) ∷ [])
unfolding world_after_entry world_of world_after_step stage_in stage_of stopped_in stopped_by shut_between has_room satisfied_in
answers = refl

laws_hold : laws past12 all ≡ true
unfolding world_after_entry world_of world_after_step stage_in stage_of stopped_in stopped_by shut_between has_room satisfied_in
laws_hold = refl
