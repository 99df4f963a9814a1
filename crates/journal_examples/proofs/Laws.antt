-- Laws of legal journals, as tests.
use Rattle.std.specs.Prelude.{ℕ, ◌+◌, ◌==◌, ◌&&◌, ◌||◌, List, [], ◌∷◌, ◌++◌, map, Bool, true, false, not, Option, Some, None, filter, find, fold, length, is_some, is_none, nat_le, nat_lt, flat_map, reverse, if◌then◌else◌}
use Rattle.std.specs.List.{list_any, list_all}
use Rattle.std.specs.Option.{option_map_or}
use Rattle.std.proofs.Math.Bool.{beq}
use Rattle.std.specs.Str.{bytes_eq}
use Rattle.bundle_life.specs.declared.bundle.BundleLife.{BundleLife}
use Rattle.bundle_life.specs.declared.bundle.BundleEvent.{BundleEvent}
use Rattle.bundle_life.specs.Lives.{bundle_of, is_active as is_active_state, is_stopping}
use Rattle.callback_orders.specs.declared.callback.Callback.{Callback}
use Rattle.callback_orders.specs.declared.callback.Callback.TheVariants.{Create, Bind, Updated, Unbind, Activate, Modified, Deactivate, Destroy}
use Rattle.callback_orders.specs.declared.word.Called.{Called}
use Rattle.callback_orders.specs.Sequences.{is_done, is_failed}
use Rattle.callback_orders.specs.Grammar.{is_create, is_activate, is_destroy}
use Rattle.callback_orders.specs.Lives.{held_for}
use Rattle.component_dto.specs.declared.description.Reference.{Reference}
use Rattle.component_state.specs.declared.component.Component.{Component}
use Rattle.component_state.specs.declared.open_period.OpenPeriod.{OpenPeriod}
use Rattle.component_state.specs.Components.{component_of, existing, numbers_of}
use Rattle.component_state.specs.ComponentConfigurations.{component_configurations, is_same_component, with_number}
use Rattle.component_state.specs.Marks.{held_back}
use Rattle.component_state.specs.Periods.{is_current}
use Rattle.component_state.specs.Inside.Misled.{chose_outdated}
use Rattle.component_state.specs.Scratch.{is_satisfied}
use Rattle.journal_core.specs.declared.entry.Entry.{Entry}
use Rattle.ldap_filter.specs.Matching.{matches}
use Rattle.ldap_filter.specs.Trees.{Tree}
use Rattle.prop_map.specs.Sameness.{same_properties}
use Rattle.prop_map.specs.Words.{has, is_empty, same_set}
use Rattle.reference_match.specs.Targets.{is_static}
use Rattle.service_listeners.specs.declared.listener.Listener.{Listener}
use Rattle.service_listeners.specs.declared.listener.ServiceEvent.{ServiceEvent}
use Rattle.service_listeners.specs.Listening.{listener_of}
use Rattle.service_registry.specs.declared.row.ServiceRow.{ServiceRow}
use Rattle.service_registry.specs.Registries.{row_of}
use Rattle.use_counts.specs.Uses.{use_count}
use Rattle.scr_world.specs.declared.command.Command.{Command}
use Rattle.scr_world.specs.declared.command.Command.TheVariants.{Install, Get, Unget, Listen, Unlisten, Register}
use Rattle.scr_world.specs.declared.reply.Reply.{Reply}
use Rattle.scr_world.specs.declared.reply.Reply.TheVariants.{Done as IsDone, Bundle as InBundle, Service as AsService, Uses as WithUses, Listener as AsListener}
use Rattle.scr_world.specs.declared.step.Step.{Step}
use Rattle.scr_world.specs.declared.step.Step.TheVariants.{Command as Commanded, Begin, End, Drained, Got, Released}
use Rattle.scr_world.specs.declared.instance.Instance.{Instance}
use Rattle.scr_world.specs.declared.world.World.{World}
use Rattle.scr_world.specs.Consequences.{keeps_bundle}
use Rattle.scr_world.specs.Instances.{has_turn, is_active_instance, last_is}
use Rattle.scr_world.specs.Readers.{listed}
use Rattle.scr_world.specs.Replies.{answer}
use Rattle.scr_world.specs.Stepping.{is_counted}
use Rattle.scr_world.specs.Steps.{History}
use Rattle.scr_world.specs.Tables.{bundle_rows}
use Rattle.scr_world.specs.Views.{bundle_of_instance, references_in, serves}
use Rattle.scr_world.specs.Worlds.{all_instances, direct_services, origins_of, row_known, satisfied_in, registered_services}
use Rattle.journal_examples.proofs.Tests.{newest}

-- open, and satisfied, without levels
abbrev met_by_registered : World → List ℕ
met_by_registered w = numbers_of (filter (is_satisfied (registered_services w)) (existing w.components))

abbrev pub law_open : World → Bool
law_open w = let met = met_by_registered w in
    same_set (satisfied_in w) met
    && same_set (map (λ (p : OpenPeriod). p.configuration) w.open_periods) (filter (λ n. not (has (held_back w.failed w.open_periods (origins_of w.instances)) n)) met)

-- a bundle is stopping exactly where it isn't active and an instance keeps it
abbrev pub law_stopping : World → Bool
law_stopping w = list_all (λ (b : BundleLife). beq (is_stopping b.state) (not (is_active_state b.state) && list_any (keeps_bundle w.components b.number) w.instances)) w.bundles.rows

-- the component configurations that are there are those that the bundles and configurations ask for
abbrev is_as : Component → Component → Bool
is_as c a = is_same_component c a && (beq c.configured a.configured && same_properties c.properties (with_number c.number a.properties))

abbrev pub law_components : World → Bool
law_components w = let these = component_configurations (bundle_rows w.bundles.rows w.documents) w.configurations in
    (length these == length (existing w.components)) && list_all (λ (c : Component). list_any (is_as c) these) (existing w.components)

-- choices stand
abbrev pub law_choices : World → Bool
law_choices w = let rows = registered_services w in list_all (λ (i : Instance). not (is_current w.open_periods i.origin) || option_map_or (λ (c : Component). not (chose_outdated rows c i.origin)) (component_of w.components i.origin.configuration) false) w.instances

-- one instance for each key and for each slot
abbrev same_key : Instance → Instance → Bool
same_key i j = (i.origin.configuration == j.origin.configuration) && (i.consumer == j.consumer)

abbrev pub law_keys : List Instance → Bool
law_keys [] = true
law_keys (i ∷ is) = not (list_any (λ (j : Instance). same_key i j || (i.slot == j.slot)) is) && law_keys is

-- the provider of what is held is active, and isn't being deactivated
abbrev is_deactivate : Callback → Bool
is_deactivate Deactivate = true
is_deactivate _ = false

abbrev is_provided : World → Instance → ℕ → Bool
is_provided w j s = is_some (row_known w s) && ((list_any (λ (r : ServiceRow). r.id == s) (direct_services w) || option_map_or (λ (r : ServiceRow). r.direct) (row_known w s) false)
    || list_any (λ i. serves w (bundle_of_instance w j) s i && (is_active_instance i && not (last_is is_deactivate i.callbacks))) w.instances)

abbrev pub law_providers : World → Bool
law_providers w = list_all (λ (j : Instance). list_all (λ (r : Reference). list_all (is_provided w j) (held_for r.name j.callbacks)) (references_in w j)) (all_instances w)

-- no static reference is bound or unbound while an instance is active
abbrev speaks_statically : List Reference → Callback → Bool
speaks_statically rs (Bind r s) = list_any (λ (q : Reference). bytes_eq q.name r && is_static q.policy) rs
speaks_statically rs (Unbind r s) = list_any (λ (q : Reference). bytes_eq q.name r && is_static q.policy) rs
speaks_statically rs _ = false

abbrev while_active : List Reference → Bool → List Called → Bool
while_active rs on [] = true
while_active rs on (c ∷ cs) = not (on && speaks_statically rs c.callback) && while_active rs (if is_activate c.callback then is_done c.outcome else (if is_deactivate c.callback then false else on)) cs

abbrev pub law_static : World → Bool
law_static w = list_all (λ (i : Instance). while_active (references_in w i) false i.callbacks) w.instances

-- limits
abbrev pub law_limits : World → Bool
law_limits w = nat_le (length w.bundles.rows) 128 && (nat_le (length w.registry.rows) 1024 && (nat_le (length w.configurations) 1024 && (nat_le (length w.listeners.rows) 64 && nat_le (length (filter (is_counted w.instances) w.components)) 512)))

-- still entries
abbrev moves : Step → World → Bool
moves (Commanded (Get b s)) w = false
moves (Commanded (Unget b s)) w = false
moves (Commanded (Listen b f)) w = false
moves (Commanded (Unlisten l)) w = false
moves (Commanded c) w = true
moves (End turn outcome) w = list_any (λ (i : Instance). has_turn turn i && (last_is is_destroy i.callbacks || ((last_is is_create i.callbacks || last_is is_activate i.callbacks) && is_failed (Some outcome)))) w.instances
moves _ w = false

abbrev is_still : Entry Step → Bool
is_still e = is_empty e.closed && (is_empty e.opened && is_empty e.stopped)

abbrev pub law_still : Entry Step → World → Bool
law_still e was = moves e.step was || is_still e

abbrev answers_count : Reply → ℕ → Bool
answers_count (WithUses k) n = k == n
answers_count _ n = false

abbrev answers_service : Reply → ℕ → World → Bool
answers_service (AsService s) b now = option_map_or (λ (r : ServiceRow). r.bundle == b) (row_of now.registry.rows s) false
answers_service _ b now = false

abbrev answers_bundle : Reply → World → Bool
answers_bundle (InBundle b) now = is_some (bundle_of now.bundles.rows b)
answers_bundle _ now = false

abbrev answers_listener : Reply → World → Bool
answers_listener (AsListener l) now = is_some (listener_of now.listeners.rows l)
answers_listener _ now = false

-- answers are true afterwards
abbrev is_true_of : Step → World → World → Bool
is_true_of (Commanded (Get b s)) was now = answers_count (answer was (Get b s)) (use_count b s now.uses)
is_true_of (Commanded (Unget b s)) was now = answers_count (answer was (Unget b s)) (use_count b s now.uses)
is_true_of (Commanded (Register b i p)) was now = answers_service (answer was (Register b i p)) b now
is_true_of (Commanded (Install d)) was now = answers_bundle (answer was (Install d)) now
is_true_of (Commanded (Listen b f)) was now = answers_listener (answer was (Listen b f)) now
is_true_of _ was now = true

-- what a listener was told leads from what matched to what matches
abbrev heard : List ℕ → ServiceEvent → List ℕ
heard set e = let less = filter (λ s. not (s == e.service)) set in if (e.value == 1) || (e.value == 2) then e.service ∷ less else less

abbrev matching : World → Tree → List ℕ
matching w tree = map (λ (r : ServiceRow). r.id) (filter (λ (r : ServiceRow). matches tree r.properties) (listed w))

-- what matched in the oldest world in which the listener is there
abbrev matched_first : ℕ → Tree → List World → List ℕ → List ℕ
matched_first n tree [] found = found
matched_first n tree (w ∷ ws) found = if is_some (listener_of w.listeners.rows n) then matched_first n tree ws (matching w tree) else found

abbrev replays : List World → Listener → Bool
replays ws l = same_set (fold heard (matched_first l.number l.filter ws []) l.events) (matching (newest ws) l.filter)

abbrev pub law_replay : List World → Bool
law_replay ws = list_all (replays ws) (newest ws).listeners.rows

abbrev may_hear : ℕ → ℕ → Bool
may_hear last v =
    if last == 0 then v == 1 else (if (last == 1) || (last == 8) then (v == 32) || ((v == 8) || (v == 16)) else (if last == 32 then v == 128 else (if last == 128 then v == 2 else (if last == 2 then v == 256
    else (if last == 256 then v == 4 else (if last == 4 then (v == 128) || (v == 64) else (if last == 64 then (v == 8) || (v == 16) else false)))))))

-- the events of a bundle are a word of its life
abbrev lives_so : ℕ → List ℕ → Bool
lives_so last [] = true
lives_so last (v ∷ vs) = may_hear last v && lives_so v vs

abbrev events_of_bundle : List BundleEvent → ℕ → List ℕ
events_of_bundle es b = map (λ (e : BundleEvent). e.value) (filter (λ (e : BundleEvent). e.bundle == b) es)

abbrev pub law_bundle_events : World → Bool
law_bundle_events w = list_all (λ (e : BundleEvent). lives_so 0 (events_of_bundle w.bundles.events e.bundle)) w.bundles.events

abbrev pub of_one : World → Bool
of_one w = law_open w && (law_stopping w && (law_components w && (law_choices w && (law_keys w.instances && (law_providers w && (law_static w && (law_limits w)))))))

abbrev pub all_laws : History → List World → Bool
all_laws [] ws = true
all_laws (e ∷ past) [] = false
all_laws (e ∷ past) (now ∷ ws) = of_one now && (law_replay (now ∷ ws) && (law_still e (newest ws) && (is_true_of e.step (newest ws) now && all_laws past ws)))

abbrev pub laws : History → List World → Bool
laws past ws = law_bundle_events (newest ws) && all_laws past ws
