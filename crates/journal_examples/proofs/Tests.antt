-- What is computed of journals.
use Rattle.std.specs.Prelude.{ℕ, ◌+◌, ◌==◌, ◌&&◌, ◌||◌, List, [], ◌∷◌, ◌++◌, map, Bool, true, false, not, Option, Some, None, is_none, is_some, filter, find, nat_le, Result, Ok, Err, if◌then◌else◌}
use Rattle.std.specs.List.{list_any, list_all}
use Rattle.std.specs.Option.{option_map_or}
use Rattle.std.specs.Str.{bytes_eq}
use Rattle.std.specs.Cmp.Lexicographic.{pointwise}
use Rattle.bundle_life.specs.declared.bundle.BundleEvent.{BundleEvent}
use Rattle.callback_orders.specs.declared.callback.Callback.{Callback}
use Rattle.callback_orders.specs.declared.callback.Callback.TheVariants.{Create, Bind, Updated, Unbind, Activate, Modified, Deactivate, Destroy}
use Rattle.callback_orders.specs.declared.instance_view.Key.{Key}
use Rattle.callback_orders.specs.Sequences.{is_outstanding, is_sequence, is_whiteboard_sequence}
use Rattle.component_state.specs.declared.origin.Choice.{Choice}
use Rattle.component_state.specs.declared.open_period.OpenPeriod.{OpenPeriod}
use Rattle.component_state.specs.Marks.{held_back}
use Rattle.component_state.specs.Passes.{closing, opened_from, opening}
use Rattle.component_state.specs.Scratch.{open_from_scratch}
use Rattle.journal_core.specs.declared.entry.Entry.{Entry}
use Rattle.journal_core.specs.declared.entry.Opened.{Opened}
use Rattle.ldap_filter.specs.Trees.{Tree}
use Rattle.prop_map.specs.Words.{has, is_empty, same_set, with_places}
use Rattle.service_listeners.specs.declared.listener.Listener.{Listener}
use Rattle.service_listeners.specs.declared.listener.ServiceEvent.{ServiceEvent}
use Rattle.service_listeners.specs.Listening.{listener_of}
use Rattle.scr_world.specs.declared.command.Command.{Command}
use Rattle.scr_world.specs.declared.command.Command.TheVariants.{Get}
use Rattle.scr_world.specs.declared.reply.CoreFault.{CoreFault}
use Rattle.scr_world.specs.declared.reply.CoreFault.TheVariants.{OutOfMemory}
use Rattle.scr_world.specs.declared.reply.Reply.{Reply}
use Rattle.scr_world.specs.declared.step.Step.{Step}
use Rattle.scr_world.specs.declared.step.Step.TheVariants.{Command as Commanded, Begin, End, Drained, Got, Released}
use Rattle.scr_world.specs.declared.instance.Instance.{Instance}
use Rattle.scr_world.specs.declared.lines.ComponentLine.{ComponentLine}
use Rattle.scr_world.specs.declared.lines.HeldLine.{HeldLine}
use Rattle.scr_world.specs.declared.marks.Token.{Token}
use Rattle.scr_world.specs.Bounds.{is_calm, settle_bound}
use Rattle.scr_world.specs.Consequences.{stage_of, stopped_by}
use Rattle.scr_world.specs.Dues.{due_in, next_begin}
use Rattle.scr_world.specs.Instances.{is_active_instance}
use Rattle.scr_world.specs.Legal.{awaits_drain, is_under_way}
use Rattle.scr_world.specs.Levels.{levels_of}
use Rattle.scr_world.specs.Lists.{world_after_entry}
use Rattle.scr_world.specs.Quiet.{holds_right}
use Rattle.scr_world.specs.Readers.{component_lines, found, held_lines}
use Rattle.scr_world.specs.Refusals.{refusal}
use Rattle.scr_world.specs.Replies.{has_effect, reply}
use Rattle.scr_world.specs.Room.{has_room, needed_by}
use Rattle.scr_world.specs.Steps.{History}
use Rattle.scr_world.specs.Stepping.{instances_told, whiteboard_by}
use Rattle.scr_world.specs.Tables.{descriptions_of}
use Rattle.scr_world.specs.Views.{ends, references_in}
use Rattle.scr_world.specs.Wanted.{missing, wanted}
use Rattle.scr_world.specs.declared.world.World.{World}
use Rattle.scr_world.specs.Worlds.{all_instances, direct_services, empty_world, origins_of, satisfied_in}

-- the worlds of a history and of all its rests, the newest first
abbrev pub newest : List World → World
newest [] = empty_world
newest (w ∷ ws) = w

abbrev pub with_after : Entry Step → List World → List World
with_after entry ws = world_after_entry entry (newest ws) ∷ ws

abbrev pub worlds : History → List World
worlds [] = empty_world ∷ []
worlds (entry ∷ past) = with_after entry (worlds past)

abbrev same_numbers : List ℕ → List ℕ → Bool
same_numbers xs ys = bytes_eq xs ys

abbrev pub same_opened : Opened → Opened → Bool
same_opened a b = (a.configuration == b.configuration) && (a.service == b.service)

abbrev pub same_choice : Choice → Choice → Bool
same_choice a b = (a.reference == b.reference) && same_numbers a.services b.services

abbrev pub same_callback : Callback → Callback → Bool
same_callback Create Create = true
same_callback (Bind r s) (Bind q t) = bytes_eq r q && (s == t)
same_callback (Updated r s) (Updated q t) = bytes_eq r q && (s == t)
same_callback (Unbind r s) (Unbind q t) = bytes_eq r q && (s == t)
same_callback Activate Activate = true
same_callback Modified Modified = true
same_callback Deactivate Deactivate = true
same_callback Destroy Destroy = true
same_callback _ _ = false

abbrev pub same_begin : Step → Option Step → Bool
same_begin (Begin t i c b k s) (Some (Begin u j d e l v)) = (t == u) && ((i == j) && ((c == d) && ((b == e) && (same_callback k l && pointwise same_choice s v))))
same_begin _ _ = false

abbrev pub may_come : World → Step → Bool
may_come w (Commanded command) = is_none (refusal w command) && has_effect w command
may_come w (Begin turn instance configuration consumer callback chosen) = same_begin (Begin turn instance configuration consumer callback chosen) (next_begin w)
may_come w (End turn outcome) = is_under_way w turn
may_come w (Drained instance) = list_any (λ (i : Instance). (i.number == instance) && awaits_drain w i) w.instances
may_come w (Got bundle service) = is_none (refusal w (Get bundle service))
may_come w (Released place) = list_any (λ (t : Token). t.place == place) w.tokens

-- the component configurations that are open, and those that are to be, where some are held back
abbrev pub open_numbers : List OpenPeriod → List ℕ
open_numbers ps = map (λ (p : OpenPeriod). p.configuration) ps

abbrev pub scratch_numbers : List ℕ → List ℕ → List ℕ
scratch_numbers out met = filter (λ n. not (has out n)) met

abbrev pub follows : ℕ → Entry Step → World → World → Bool
follows limit entry was now =
    let s = stage_of entry.step was in
    let met = satisfied_in now in
    let out = held_back now.failed now.open_periods (origins_of now.instances) in
    may_come was entry.step
    && (has_room limit was (needed_by entry.step)
    && (same_numbers entry.closed (closing s now.open_periods)
    && (pointwise same_opened entry.opened (opened_from s.next (opening s now.open_periods))
    && (same_numbers entry.stopped (stopped_by entry.step was)
    && (same_set (open_numbers now.open_periods) (scratch_numbers out met)
    && (list_all (λ (i : Instance). is_sequence i.callbacks) (instances_told entry.step was)
    && (is_whiteboard_sequence (whiteboard_by entry.step was).callbacks
    && has_room limit now 0)))))))

abbrev pub legal : ℕ → History → List World → Bool
legal limit [] ws = true
legal limit (entry ∷ past) [] = false
legal limit (entry ∷ past) (now ∷ ws) = follows limit entry (newest ws) now && legal limit past ws

abbrev pub begins : List World → List (Option Step)
begins ws = map next_begin ws

abbrev pub states : List World → List (List (ℕ × ℕ))
states ws = map (λ w. map (λ (l : ComponentLine). (l.configuration, l.state)) (component_lines w)) ws

abbrev pub is_quiet : World → Bool
is_quiet w = is_none (due_in w) && (not (list_any (λ (i : Instance). is_outstanding i.callbacks) (all_instances w)) && not (list_any (awaits_drain w) w.instances))

abbrev holds_all_right : Bool → World → Instance → Bool
holds_all_right ending w i = list_all (holds_right ending w i) (with_places 0 (references_in w i))

abbrev pub is_right : World → Bool
is_right w =
    let ds = descriptions_of w.documents in
    same_set (map (λ (p : OpenPeriod). p.configuration) w.open_periods) (open_from_scratch ds (levels_of ds) (direct_services w) w.open_periods w.components w.failed)
    && (list_all (λ (i : Instance). is_active_instance i && not (ends w i)) w.instances
    && (is_empty (missing w)
    && (list_all (λ (i : Instance). holds_all_right (ends w i) w i) w.instances && holds_all_right false w w.whiteboard)))

abbrev pub quiet_ones : List World → List Bool
quiet_ones ws = map is_quiet ws

abbrev pub right_ones : List World → List Bool
right_ones ws = map is_right ws

abbrev pub wanted_at : List World → List (List Key)
wanted_at ws = map wanted ws

-- a command asked where so many entries stood
abbrev pub asked : ℕ → Command → (ℕ × Command)
asked n c = (n, c)

abbrev reply_at : ℕ → List World → (ℕ × Command) → Result Reply CoreFault
reply_at limit ws a = option_map_or (λ (w : World). reply limit w a.1) (find (λ (w : World). w.entries == a.0) ws) (Err OutOfMemory)

abbrev pub replies : ℕ → List World → List (ℕ × Command) → List (Result Reply CoreFault)
replies limit ws as_ = map (reply_at limit ws) as_

abbrev pub bundle_events_at_end : List World → List BundleEvent
bundle_events_at_end ws = (newest ws).bundles.events

abbrev pub events_at_end : ℕ → List World → List ServiceEvent
events_at_end listener ws = option_map_or (λ (l : Listener). l.events) (listener_of (newest ws).listeners.rows listener) []

abbrev pub held_at_end : ℕ → List World → List HeldLine
held_at_end configuration ws = held_lines (newest ws) configuration

abbrev pub found_at_end : Tree → List World → List ℕ
found_at_end tree ws = found (newest ws) tree

abbrev pub bound_at_end : List World → ℕ
bound_at_end ws = settle_bound (newest ws)

abbrev pub calm_at_end : List World → Bool
calm_at_end ws = is_calm (newest ws)
