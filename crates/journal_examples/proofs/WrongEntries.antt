-- Entries that may not follow: one thing is wrong in each, and `Follows` refuses it.
use Rattle.std.specs.Prelude.{◌≡◌, refl, ℕ, List, [], ◌∷◌, codes, true, false, Some, None, Ok, Err, pos, negsuc}
use Rattle.prop_map.specs.declared.value.Value.TheVariants.{Text, Whole, Flag, Texts, Wholes, Flags}
use Rattle.prop_map.specs.declared.reference_words.Cardinality.TheVariants.{ZeroOrOne, One, ZeroOrMore, OneOrMore}
use Rattle.prop_map.specs.declared.reference_words.Policy.TheVariants.{Static, Dynamic}
use Rattle.prop_map.specs.declared.reference_words.PolicyOption.TheVariants.{Reluctant, Greedy}
use Rattle.component_dto.specs.declared.description.Scope.TheVariants.{Singleton, Bundle as InBundleScope, Prototype}
use Rattle.component_dto.specs.declared.description.ConfigurationPolicy.TheVariants.{Optional, Require, Ignore}
use Rattle.bundle_doc.specs.declared.document.BundleDoc.{BundleDoc}
use Rattle.bundle_life.specs.declared.bundle.BundleEvent.{BundleEvent}
use Rattle.journal_examples.proofs.Trees.{tree_or_none}
use Rattle.callback_orders.specs.declared.callback.Callback.TheVariants.{Create, Bind, Updated, Unbind, Activate, Modified, Deactivate, Destroy}
use Rattle.callback_orders.specs.declared.callback.Outcome.TheVariants.{Done, Refused, NoMemory}
use Rattle.service_listeners.specs.declared.listener.ServiceEvent.{ServiceEvent}
use Rattle.scr_world.specs.declared.step.Step.TheVariants.{Command as Commanded, Begin, End, Drained, Got, Released}
use Rattle.scr_world.specs.declared.command.Command.TheVariants.{Install, Update, Start, Stop, Uninstall, Enable, Disable, Register, Unregister, SetProperties, Get, Unget, Listen, Unlisten, Configure, ConfigureFactory, Unconfigure}
use Rattle.scr_world.specs.declared.reply.CoreFault.TheVariants.{NoBundle, NoComponent, WrongState, Stopping, SameName, Cycle, BundlesFull, ComponentsFull, ServicesFull, ConfigurationsFull, ListenersFull, NoService, NotOwner, NotUsing, NoListener, NoConfiguration, BadPid, FactoryClash, ActivationFailed, ActivationNoMemory, JournalFull}
use Rattle.scr_world.specs.declared.reply.Reply.TheVariants.{Done as IsDone, Bundle as InBundle, Service as AsService, Uses as WithUses, Listener as AsListener}
use Rattle.scr_world.specs.Steps.{History}
use Rattle.scr_world.specs.declared.world.World.{World}
use Rattle.journal_examples.proofs.Meanings.{wrong_means}
use Rattle.scr_world.specs.Legal.{Follows}
use Rattle.journal_examples.proofs.Tests.{worlds, legal, begins, states, quiet_ones, right_ones, asked, replies, bundle_events_at_end, events_at_end, held_at_end, found_at_end, wanted_at, bound_at_end, calm_at_end}
use Rattle.scr_world.specs.Worlds.{satisfied_in}
use Rattle.scr_world.specs.Room.{has_room}
use Rattle.scr_world.specs.Consequences.{stage_in, stage_of, stopped_in, stopped_by, shut_between}
use Rattle.scr_world.specs.Stepping.{world_after_step}
use Rattle.scr_world.specs.Lists.{world_after_entry, world_of}
use Rattle.journal_core.specs.declared.entry.Entry.{Entry}
use Rattle.scr_world.specs.declared.step.Step.{Step}
use Rattle.journal_examples.proofs.FirstSatisfaction.{past1 as satisfied1, past2 as satisfied2, past3 as satisfied3, past4 as satisfied4, past5 as satisfied5, past14 as satisfied14}
use Rattle.journal_examples.proofs.StopOfProvider.{past14 as stop14, past15 as stop15, past23 as stop23, past26 as stop26}

-- the consumer and the provider don't open
abbrev not_opened_entry : Entry Step
not_opened_entry = record { step = Commanded (Start 2); closed = []; opened = []; stopped = [] }

not_opened : Follows 4194304 not_opened_entry satisfied3 → ⊥
unfolding world_after_entry world_of world_after_step stage_in stage_of stopped_in stopped_by shut_between has_room satisfied_in
not_opened = wrong_means 4194304 not_opened_entry satisfied3 refl

-- the consumer opens before the provider
abbrev consumer_first_entry : Entry Step
consumer_first_entry = record { step = Commanded (Start 2); closed = []; opened = (record { configuration = 1; service = 0 } ∷ record { configuration = 2; service = 1 } ∷ []); stopped = [] }

consumer_first : Follows 4194304 consumer_first_entry satisfied3 → ⊥
unfolding world_after_entry world_of world_after_step stage_in stage_of stopped_in stopped_by shut_between has_room satisfied_in
consumer_first = wrong_means 4194304 consumer_first_entry satisfied3 refl

-- the provider's service has the number behind the next one
abbrev number_left_out_entry : Entry Step
number_left_out_entry = record { step = Commanded (Start 2); closed = []; opened = (record { configuration = 2; service = 2 } ∷ record { configuration = 1; service = 0 } ∷ []); stopped = [] }

number_left_out : Follows 4194304 number_left_out_entry satisfied3 → ⊥
unfolding world_after_entry world_of world_after_step stage_in stage_of stopped_in stopped_by shut_between has_room satisfied_in
number_left_out = wrong_means 4194304 number_left_out_entry satisfied3 refl

-- the consumer stays closed
abbrev provider_alone_entry : Entry Step
provider_alone_entry = record { step = Commanded (Start 2); closed = []; opened = (record { configuration = 2; service = 1 } ∷ []); stopped = [] }

provider_alone : Follows 4194304 provider_alone_entry satisfied3 → ⊥
unfolding world_after_entry world_of world_after_step stage_in stage_of stopped_in stopped_by shut_between has_room satisfied_in
provider_alone = wrong_means 4194304 provider_alone_entry satisfied3 refl

-- the second due callback begins
abbrev not_first_due_entry : Entry Step
not_first_due_entry = record { step = Begin 1 1 2 0 Create []; closed = []; opened = []; stopped = [] }

not_first_due : Follows 4194304 not_first_due_entry satisfied4 → ⊥
unfolding world_after_entry world_of world_after_step stage_in stage_of stopped_in stopped_by shut_between has_room satisfied_in
not_first_due = wrong_means 4194304 not_first_due_entry satisfied4 refl

-- a Create chooses nothing for a static reference
abbrev nothing_chosen_entry : Entry Step
nothing_chosen_entry = record { step = Begin 1 1 1 0 Create []; closed = []; opened = []; stopped = [] }

nothing_chosen : Follows 4194304 nothing_chosen_entry satisfied4 → ⊥
unfolding world_after_entry world_of world_after_step stage_in stage_of stopped_in stopped_by shut_between has_room satisfied_in
nothing_chosen = wrong_means 4194304 nothing_chosen_entry satisfied4 refl

-- a turn ends that isn't under way
abbrev other_turn_ends_entry : Entry Step
other_turn_ends_entry = record { step = End 2 Done; closed = []; opened = []; stopped = [] }

other_turn_ends : Follows 4194304 other_turn_ends_entry satisfied5 → ⊥
unfolding world_after_entry world_of world_after_step stage_in stage_of stopped_in stopped_by shut_between has_room satisfied_in
other_turn_ends = wrong_means 4194304 other_turn_ends_entry satisfied5 refl

-- a command changes nothing
abbrev started_twice_entry : Entry Step
started_twice_entry = record { step = Commanded (Start 1); closed = []; opened = []; stopped = [] }

started_twice : Follows 4194304 started_twice_entry satisfied2 → ⊥
unfolding world_after_entry world_of world_after_step stage_in stage_of stopped_in stopped_by shut_between has_room satisfied_in
started_twice = wrong_means 4194304 started_twice_entry satisfied2 refl

-- a command is refused
abbrev no_bundle_entry : Entry Step
no_bundle_entry = record { step = Commanded (Start 7); closed = []; opened = []; stopped = [] }

no_bundle : Follows 4194304 no_bundle_entry satisfied1 → ⊥
unfolding world_after_entry world_of world_after_step stage_in stage_of stopped_in stopped_by shut_between has_room satisfied_in
no_bundle = wrong_means 4194304 no_bundle_entry satisfied1 refl

-- a turn begins that isn't due
abbrev nothing_due_entry : Entry Step
nothing_due_entry = record { step = Begin 6 1 1 0 Modified []; closed = []; opened = []; stopped = [] }

nothing_due : Follows 4194304 nothing_due_entry satisfied14 → ⊥
unfolding world_after_entry world_of world_after_step stage_in stage_of stopped_in stopped_by shut_between has_room satisfied_in
nothing_due = wrong_means 4194304 nothing_due_entry satisfied14 refl

-- a service is got that isn't there
abbrev no_service_entry : Entry Step
no_service_entry = record { step = Got 1 1; closed = []; opened = []; stopped = [] }

no_service : Follows 4194304 no_service_entry satisfied3 → ⊥
unfolding world_after_entry world_of world_after_step stage_in stage_of stopped_in stopped_by shut_between has_room satisfied_in
no_service = wrong_means 4194304 no_service_entry satisfied3 refl

-- a get is released that no token holds
abbrev no_token_entry : Entry Step
no_token_entry = record { step = Released 3; closed = []; opened = []; stopped = [] }

no_token : Follows 4194304 no_token_entry satisfied14 → ⊥
unfolding world_after_entry world_of world_after_step stage_in stage_of stopped_in stopped_by shut_between has_room satisfied_in
no_token = wrong_means 4194304 no_token_entry satisfied14 refl

-- a gate is drained that isn't shut
abbrev no_drain_entry : Entry Step
no_drain_entry = record { step = Drained 1; closed = []; opened = []; stopped = [] }

no_drain : Follows 4194304 no_drain_entry stop14 → ⊥
unfolding world_after_entry world_of world_after_step stage_in stage_of stopped_in stopped_by shut_between has_room satisfied_in
no_drain = wrong_means 4194304 no_drain_entry stop14 refl

-- the consumer of a stopped provider stays open
abbrev consumer_stays_entry : Entry Step
consumer_stays_entry = record { step = Commanded (Stop 1); closed = (1 ∷ []); opened = []; stopped = [] }

consumer_stays : Follows 4194304 consumer_stays_entry stop14 → ⊥
unfolding world_after_entry world_of world_after_step stage_in stage_of stopped_in stopped_by shut_between has_room satisfied_in
consumer_stays = wrong_means 4194304 consumer_stays_entry stop14 refl

-- what closes is told in another order
abbrev closed_downward_entry : Entry Step
closed_downward_entry = record { step = Commanded (Stop 1); closed = (2 ∷ 1 ∷ []); opened = []; stopped = [] }

closed_downward : Follows 4194304 closed_downward_entry stop14 → ⊥
unfolding world_after_entry world_of world_after_step stage_in stage_of stopped_in stopped_by shut_between has_room satisfied_in
closed_downward = wrong_means 4194304 closed_downward_entry stop14 refl

-- the provider is deactivated before the gate of its consumer is drained
abbrev provider_first_entry : Entry Step
provider_first_entry = record { step = Begin 6 2 1 0 Deactivate []; closed = []; opened = []; stopped = [] }

provider_first : Follows 4194304 provider_first_entry stop15 → ⊥
unfolding world_after_entry world_of world_after_step stage_in stage_of stopped_in stopped_by shut_between has_room satisfied_in
provider_first = wrong_means 4194304 provider_first_entry stop15 refl

-- an active instance is destroyed
abbrev not_deactivated_entry : Entry Step
not_deactivated_entry = record { step = Begin 9 2 1 0 Destroy []; closed = []; opened = []; stopped = [] }

not_deactivated : Follows 4194304 not_deactivated_entry stop23 → ⊥
unfolding world_after_entry world_of world_after_step stage_in stage_of stopped_in stopped_by shut_between has_room satisfied_in
not_deactivated = wrong_means 4194304 not_deactivated_entry stop23 refl

-- the last instance goes, and its bundle goes on stopping
abbrev never_stopped_entry : Entry Step
never_stopped_entry = record { step = End 10 Done; closed = []; opened = []; stopped = [] }

never_stopped : Follows 4194304 never_stopped_entry stop26 → ⊥
unfolding world_after_entry world_of world_after_step stage_in stage_of stopped_in stopped_by shut_between has_room satisfied_in
never_stopped = wrong_means 4194304 never_stopped_entry stop26 refl

-- the journal has no room for the end of a turn
abbrev no_room_entry : Entry Step
no_room_entry = record { step = Begin 1 1 1 0 Create (record { reference = 0; services = 1 ∷ [] } ∷ []); closed = []; opened = []; stopped = [] }

no_room : Follows 5 no_room_entry satisfied4 → ⊥
unfolding world_after_entry world_of world_after_step stage_in stage_of stopped_in stopped_by shut_between has_room satisfied_in
no_room = wrong_means 5 no_room_entry satisfied4 refl
