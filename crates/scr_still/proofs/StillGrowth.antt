-- The world and the state behind an entry without consequences.
use Rattle.std.proofs.Common.{◌≡◌, ◌+◌, ◌-◌, ◌<◌, ◌≤◌, ◌∙◌, ◌++◌, ◌∷◌, [], ℕ, List, Bool}
use Rattle.std.proofs.Common.{true, false, Option, Some, None, ap, append-nil, arith, cond, length, refl, subst, sym}
use Rattle.std.specs.Prelude.{◌==◌, ◌&&◌, filter, flat_map, map}
use Rattle.std.specs.List.{list_any}
use Rattle.std.specs.Option.{unwrap_or}
use Rattle.std.proofs.Common.{inl, inr, not}
use Rattle.std.proofs.lemmas.Bool.{eq-eqb, eqb-true, leb-true, or_left, or_right}
use Rattle.component_state.proofs.Among.{Among, filter_none}
use Rattle.std.proofs.lemmas.List.{length-reverse, reverse-append}
use Rattle.bundle_life.specs.declared.bundle.BundleLife.{BundleLife}
use Rattle.bundle_life.specs.Lives.{BundleTable, resolved_among, stop_completed}
use Rattle.callback_orders.specs.Grammar.{is_activate}
use Rattle.component_state.specs.declared.component.Component.{Component}
use Rattle.component_state.specs.declared.open_period.OpenPeriod.{OpenPeriod}
use Rattle.component_state.specs.Components.{pass_order}
use Rattle.component_state.specs.Passes.{HasPassed}
use Rattle.component_state.specs.Periods.{open_after}
use Rattle.component_state.specs.Rows.{rows_of}
use Rattle.component_state.specs.Scratch.{is_satisfied}
use Rattle.journal_core.specs.Rooms.{JournalRows}
use Rattle.journal_core.specs.declared.entry.Entry.{Entry}
use Rattle.prop_map.specs.Words.{has}
use Rattle.scr_laws.specs.Following.{entry_of}
use Rattle.scr_laws.specs.Reserving.{given_back_by, reserved_with}
use Rattle.scr_laws.proofs.CreatedLaws.{entries_of}
use Rattle.scr_laws.proofs.FollowingEntries.{follows}
use Rattle.scr_laws.proofs.Reserved.{reserved_then}
use Rattle.scr_laws.proofs.StandingGets.{none_dropped, tokens_left, uses_left}
use Rattle.scr_laws.specs.Gates.{shuts_nothing}
use Rattle.scr_laws.proofs.NothingShut.{nothing_shut}
use Rattle.scr_laws.specs.Entries.{is_still_step}
use Rattle.scr_laws.specs.Opens.{meets_all, some_numbered}
use Rattle.scr_laws.specs.Stills.{IsStill, bare, passed_nothing}
use Rattle.scr_laws.proofs.Described.{legal_in_order}
use Rattle.scr_laws.proofs.Legal.{legal_scratch}
use Rattle.scr_laws.proofs.Opening.{satisfied_is}
use Rattle.scr_laws.proofs.StillEntries.{nothing_stops, stage_is_still}
use Rattle.scr_laws.proofs.StillLaw.{legal_calm}
use Rattle.scr_laws.proofs.Stillness.{passes_nothing}
use Rattle.scr_state.specs.Drafts.{with_draft}
use Rattle.scr_state.specs.Keeps.{IsDraft, Keeps, with_bundles_by}
use Rattle.scr_state.specs.declared.draft.Draft.{Draft}
use Rattle.scr_state.specs.declared.state.State.{State}
use Rattle.scr_still.specs.Stillness.{HasRoomLeft, is_release, with_bare}
use Rattle.scr_still.proofs.KeptHeld.{held_same}
use Rattle.scr_world.specs.Calls.{Grown, world_at}
use Rattle.scr_world.specs.Consequences.{shut_between, stage_in, stage_of}
use Rattle.scr_world.specs.Legal.{Follows, IsLegal, MayCome}
use Rattle.scr_world.specs.Levels.{levels_of}
use Rattle.scr_world.specs.Lists.{change_between, change_of_one, changes_between, direct_between, is_service_held, row_at}
use Rattle.scr_world.specs.Lists.{tokens_in, unregistered_held_between, uses_in, with_gets_and_events, with_lists_of, world_after_entry, world_of}
use Rattle.scr_world.specs.Room.{has_room, needed_by, reserved}
use Rattle.scr_world.specs.Stepping.{world_after_step}
use Rattle.scr_world.specs.Steps.{History, history_of}
use Rattle.scr_world.specs.Tables.{descriptions_of, listeners_by, tokens_by, uses_by}
use Rattle.scr_world.specs.Whiteboard.{platform_rows}
use Rattle.scr_world.specs.Worlds.{is_registered, registered_services, satisfied_in}
use Rattle.scr_world.specs.declared.marks.Token.{Token}
use Rattle.scr_world.specs.declared.step.Step.{Step}
use Rattle.scr_world.specs.declared.step.Step.TheVariants.{Command as Commanded, Begin, End, Drained, Got, Released}
use Rattle.scr_world.specs.declared.world.World.{World}
use Rattle.service_listeners.specs.Listening.{Change, ListenerTable, after_changes, with_changes}
use Rattle.service_listeners.specs.declared.listener.Listener.{Listener}
use Rattle.service_registry.specs.Registries.{Registered, row_of, with_numbers_given}
use Rattle.service_registry.specs.declared.row.ServiceRow.{ServiceRow}
use Rattle.use_counts.specs.declared.uses.UseRow.{UseRow}

-- ---- steps that shut nothing

still_step : (step : Step) (w : World) → shuts_nothing step ≡ true → is_still_step step w ≡ true
still_step (Commanded command) w is = absurd cc
still_step (Begin turn instance configuration consumer callback chosen) w is = refl
still_step (End turn outcome) w is = absurd cc
still_step (Drained instance) w is = refl
still_step (Got bundle service) w is = refl
still_step (Released place) w is = refl

pub bundles_stay : (step : Step) (w : World) → shuts_nothing step ≡ true → with_bundles_by step w ≡ w
bundles_stay (Commanded command) w is = absurd cc
bundles_stay (Begin turn instance configuration consumer callback chosen) w is = refl
bundles_stay (End turn outcome) w is = absurd cc
bundles_stay (Drained instance) w is = refl
bundles_stay (Got bundle service) w is = refl
bundles_stay (Released place) w is = refl

listeners_stay : (step : Step) (t : ListenerTable) → shuts_nothing step ≡ true → listeners_by step t ≡ t
listeners_stay (Commanded command) t is = absurd cc
listeners_stay (Begin turn instance configuration consumer callback chosen) t is = refl
listeners_stay (End turn outcome) t is = absurd cc
listeners_stay (Drained instance) t is = refl
listeners_stay (Got bundle service) t is = refl
listeners_stay (Released place) t is = refl

given_any : (step : Step) (w v : World) → shuts_nothing step ≡ true → given_back_by step w ≡ given_back_by step v
given_any (Commanded command) w v is = absurd cc
given_any (Begin turn instance configuration consumer callback chosen) w v is = refl
given_any (End turn outcome) w v is = absurd cc
given_any (Drained instance) w v is = refl
given_any (Got bundle service) w v is = refl
given_any (Released place) w v is = refl

released_one : (step : Step) (w : World) → is_release step ≡ true → (given_back_by step w ≡ 1) × (reserved_with step ≡ 0)
released_one (Commanded command) w is = absurd cc
released_one (Begin turn instance configuration consumer callback chosen) w is = absurd cc
released_one (End turn outcome) w is = absurd cc
released_one (Drained instance) w is = (refl, refl)
released_one (Got bundle service) w is = absurd cc
released_one (Released place) w is = (refl, refl)

begun_needs : (b : Bool) → cond b 3 2 ≡ cond b 2 1 + 1
begun_needs true = refl
begun_needs false = refl

needed_more : (step : Step) → shuts_nothing step ≡ true → is_release step ≡ false → needed_by step ≡ reserved_with step + 1
needed_more (Commanded command) shuts is = absurd cc
needed_more (Begin turn instance configuration consumer callback chosen) shuts is = begun_needs (is_activate callback)
needed_more (End turn outcome) shuts is = absurd cc
needed_more (Drained instance) shuts is = absurd cc
needed_more (Got bundle service) shuts is = refl
needed_more (Released place) shuts is = absurd cc

room_for : (limit : ℕ) (w : World) (more : ℕ) → has_room limit w more ≡ true → w.entries + reserved w + more ≤ limit
unfolding has_room
room_for limit w more room = leb-true (w.entries + reserved w + more) limit room

-- a journal and its world count the same entries
pub counted_in : (j : JournalRows Step) (s : State) → Keeps j s → s.world.entries ≡ length j.entries
counted_in j s keeps = ap (λ (w : World). w.entries) keeps.world ∙ entries_of (history_of j.entries) ∙ length-reverse j.entries

-- what they leave
record Leaves (step : Step) (w : World) : Type 0 where
  registry : (world_after_step step w).registry ≡ w.registry
  periods : (world_after_step step w).open_periods ≡ w.open_periods
  documents : (world_after_step step w).documents ≡ w.documents
  components : (world_after_step step w).components ≡ w.components
  listeners : (world_after_step step w).listeners ≡ w.listeners
  held : (world_after_step step w).unregistered_held ≡ w.unregistered_held
  entries : (world_after_step step w).entries ≡ w.entries
  uses : (world_after_step step w).uses ≡ uses_by step w.tokens w.uses
  tokens : (world_after_step step w).tokens ≡ tokens_by step w.entries w.tokens

leaves : (step : Step) (w : World) → shuts_nothing step ≡ true → Leaves step w
unfolding world_after_step
leaves (Commanded command) w is = absurd cc
leaves (Begin turn instance configuration consumer callback chosen) w is =
    record { registry = refl; periods = refl; documents = refl; components = refl; listeners = refl; held = refl; entries = refl; uses = refl; tokens = refl }
leaves (End turn outcome) w is = absurd cc
leaves (Drained instance) w is = record {
  registry = refl;
  periods = refl;
  documents = refl;
  components = refl;
  listeners = refl;
  held = refl;
  entries =
      refl;
  uses = refl;
  tokens = refl;
}
leaves (Got bundle service) w is = record
    { registry = refl; periods = refl; documents = refl; components = refl; listeners = refl; held = refl; entries = refl; uses = refl; tokens = refl }
leaves (Released place) w is = record {
  registry = refl;
  periods = refl;
  documents = refl;
  components = refl;
  listeners = refl;
  held = refl;
  entries =
      refl;
  uses = refl;
  tokens = refl;
}

-- ---- nothing happened to services

one_same : (r : ServiceRow) → change_of_one r r ≡ []
one_same r =
    ap (λ b. cond b (cond (r.revision == r.revision) [] ((Some r, Some r) ∷ [])) ((Some r, None) ∷ (None, Some r) ∷ [])) (eq-eqb r.id r.id refl)
    ∙ ap (λ b. cond b [] ((Some r, Some r) ∷ [])) (eq-eqb r.revision r.revision refl)

none_changed : (o : Option ServiceRow) → change_between o o ≡ []
none_changed None = refl
none_changed (Some r) = one_same r

flat_none : {X Y : Type 0} (f : X → List Y) → ((x : X) → f x ≡ []) → (xs : List X) → flat_map f xs ≡ []
flat_none f none [] = refl
flat_none f none (x ∷ xs) = ap (λ ys. ys ++ flat_map f xs) (none x) ∙ flat_none f none xs

pub no_changes : (was now : World) → now.registry.rows ≡ was.registry.rows → now.open_periods ≡ was.open_periods → changes_between was now ≡ []
no_changes was now rows periods =
    let ds = descriptions_of now.documents in
    ap (λ xs. xs ++ flat_map (λ (c : Component). change_between (row_at was.open_periods c.number) (row_at now.open_periods c.number))
    (pass_order ds (levels_of ds) now.components))
    (flat_none (λ s. change_between (row_of was.registry.rows s) (row_of now.registry.rows s))
    (λ s. ap (λ (rs : List ServiceRow). change_between (row_of was.registry.rows s) (row_of rs s)) rows ∙ none_changed (row_of was.registry.rows s))
    (direct_between was now))
    ∙ flat_none (λ (c : Component). change_between (row_at was.open_periods c.number) (row_at now.open_periods c.number))
    (λ c. ap (λ (ps : List OpenPeriod). change_between (row_at was.open_periods c.number) (row_at ps c.number)) periods
    ∙ none_changed (row_at was.open_periods c.number)) (pass_order ds (levels_of ds) now.components)

rows_untold : (rows : List Listener) → map (with_changes []) rows ≡ rows
rows_untold [] = refl
rows_untold (l ∷ ls) = ap (λ es. record l { events = es } ∷ map (with_changes []) ls) (append-nil l.events) ∙ ap (λ ms. l ∷ ms) (rows_untold ls)

pub untold : (t : ListenerTable) → after_changes [] t ≡ t
untold t = ap (λ rows. record t { rows = rows }) (rows_untold t.rows)

rows_unresolved : (rows : List BundleLife) → map (resolved_among []) rows ≡ rows
rows_unresolved [] = refl
rows_unresolved (b ∷ bs) = ap (λ xs. b ∷ xs) (rows_unresolved bs)

pub none_completed : (t : BundleTable) → stop_completed [] t ≡ t
none_completed t = ap (λ rows. record t { rows = rows; events = t.events ++ [] }) (rows_unresolved t.rows)
    ∙ ap (λ es. record t { events = es }) (append-nil t.events)

plus_none : (n : ℕ) → n + 0 ≡ n
plus_none n = grind (arith)

pub none_given : (t : Registered) → with_numbers_given 0 t ≡ t
none_given t = ap (λ n. record t { numbered = n }) (plus_none t.numbered)

pub world_of_more : (entry : Entry Step) (past : History) → world_of (entry ∷ past) ≡ world_after_entry entry (world_of past)
unfolding world_of
world_of_more entry past = refl

-- ---- the entry and the world behind it

module _ (limit : ℕ) (past : History) (legal : IsLegal limit past) (step : Step) (shuts : shuts_nothing step ≡ true) (may : MayCome (world_of past) step)
    (room : has_room limit (world_of past) (needed_by step) ≡ true) where
  still : IsStill (stage_of step (world_of past))
  still = stage_is_still (world_of past) (legal_calm limit past legal) step may (still_step step (world_of past) shuts)

  passed : HasPassed (stage_of step (world_of past)) (passed_nothing (stage_of step (world_of past)))
  passed = passes_nothing (stage_of step (world_of past)) still

  entry_is : entry_of step (passed_nothing (stage_of step (world_of past))) (world_of past) ≡ bare step
  entry_is = ap (λ (ns : List ℕ). record { step = step; closed = []; opened = []; stopped = ns })
      (nothing_stops (world_of past) (legal_calm limit past legal) step (still_step step (world_of past) shuts))

  pub it_follows : Follows limit (bare step) past
  it_follows = subst (λ (e : Entry Step). Follows limit e past) entry_is
      (follows limit past legal step may room (passed_nothing (stage_of step (world_of past))) passed)

  legal_then : IsLegal limit (bare step ∷ past)
  legal_then = (it_follows, legal)

  open_is : (world_after_step step (world_of past)).open_periods ≡ open_after (world_after_step step (world_of past)).entries
      (world_after_step step (world_of past)).components [] [] (world_after_step step (world_of past)).open_periods
  unfolding stage_of stage_in
  open_is = passed.open_now

  abbrev m : World
  m = world_after_step step (world_of past)

  abbrev later : World
  later = record m { entries = m.entries + 1 }

  lists_are : with_lists_of (bare step) (world_after_step step (world_of past)) ≡ later
  lists_are =
      ap (λ (t : BundleTable). record m {
        entries = m.entries + 1;
        bundles = t;
        open_periods =
            open_after m.entries m.components [] [] m.open_periods;
        registry = with_numbers_given 0 m.registry;
      }) (none_completed m.bundles)
      ∙ ap (λ (ps : List OpenPeriod). record m { entries = m.entries + 1; open_periods = ps; registry = with_numbers_given 0 m.registry }) (sym open_is)
      ∙ ap (λ (t : Registered). record m { entries = m.entries + 1; registry = t }) (none_given m.registry)

  settles : world_after_entry (bare step) (world_of past) ≡ with_gets_and_events step (world_of past) later
  unfolding world_after_entry
  settles = ap (with_gets_and_events step (world_of past)) lists_are

  left : Leaves step (world_of past)
  left = leaves step (world_of past) shuts

  uses_now : uses_in later ≡ m.uses
  uses_now = sym (ap (λ (w : World). w.uses) settles) ∙ uses_left limit (bare step) past legal_then (still_step step (world_of past) shuts) ∙ sym left.uses

  tokens_now : tokens_in later ≡ m.tokens
  tokens_now = sym (ap (λ (w : World). w.tokens) settles) ∙ tokens_left limit (bare step) past legal_then (still_step step (world_of past) shuts)
      ∙ sym left.tokens

  listeners_now : listeners_by step (after_changes (changes_between (world_of past) later) (world_of past).listeners) ≡ m.listeners
  listeners_now =
      ap (λ (cs : List Change). listeners_by step (after_changes cs (world_of past).listeners))
      (no_changes (world_of past) later (ap (λ (t : Registered). t.rows) left.registry) left.periods)
      ∙ ap (listeners_by step) (untold (world_of past).listeners) ∙ listeners_stay step (world_of past).listeners shuts ∙ sym left.listeners

  held_now : unregistered_held_between (world_of past) m ≡ m.unregistered_held
  held_now = held_same past step shuts ∙ sym left.held

  pub world_then : world_after_entry (bare step) (world_of past) ≡ record m { entries = m.entries + 1 }
  world_then =
      settles
      ∙ ap (λ (us : List UseRow). record (with_gets_and_events step (world_of past) later) { uses = us }) uses_now
      ∙ ap (λ (ts : List Token). record (with_gets_and_events step (world_of past) later) { uses = m.uses; tokens = ts }) tokens_now
      ∙ ap (λ (t : ListenerTable). record (with_gets_and_events step (world_of past) later) { uses = m.uses; tokens = m.tokens; listeners = t }) listeners_now
      ∙ ap (λ (rows : List ServiceRow). record m { entries = m.entries + 1; unregistered_held = rows }) held_now

  -- ---- what is satisfied and reserved then

  abbrev met_by : List ServiceRow → List OpenPeriod → List Component → ℕ → Bool
  met_by rows periods cs number = list_any (λ (c : Component).
      (c.number == number) && (c.exists && is_satisfied ((platform_rows ++ rows) ++ rows_of periods) c)) cs

  satisfied_by : (w : World) → w ≡ record m { entries = m.entries + 1 } → (number : ℕ)
      → some_numbered (meets_all w) w.components number ≡ some_numbered (meets_all (world_of past)) (world_of past).components number
  satisfied_by w is number =
      ap (λ (v : World). some_numbered (meets_all v) v.components number) is
      ∙ ap (λ (t : Registered). met_by t.rows m.open_periods m.components number) left.registry
      ∙ ap (λ (ps : List OpenPeriod). met_by (world_of past).registry.rows ps m.components number) left.periods
      ∙ ap (λ (cs : List Component). met_by (world_of past).registry.rows (world_of past).open_periods cs number) left.components

  then_is : world_of (bare step ∷ past) ≡ record m { entries = m.entries + 1 }
  then_is = world_of_more (bare step) past ∙ world_then

  pub satisfied_then : (number : ℕ) → has (satisfied_in (world_of past)) number ≡ has (satisfied_in (world_of (bare step ∷ past))) number
  satisfied_then number =
      satisfied_is (world_of past) (legal_in_order limit past legal) (legal_scratch limit past legal) number
      ∙ sym (satisfied_by (world_of (bare step ∷ past)) then_is number)
      ∙ sym (satisfied_is (world_of (bare step ∷ past)) (legal_in_order limit (bare step ∷ past) legal_then)
      (legal_scratch limit (bare step ∷ past) legal_then) number)

  counted : reserved (world_of (bare step ∷ past)) + given_back_by step (world_of past) ≡ reserved (world_of past) + reserved_with step
  counted =
      let sum = reserved_then limit past legal (bare step) may in
      let none = ap (λ (ts : List Token). length ts) (none_dropped limit (bare step) past legal_then (still_step step (world_of past) shuts)) in
      let more = ap reserved (world_of_more (bare step) past) in
      omega (arith, sum, none, more)

  pub reserved_now : (w : World) → reserved (world_of (bare step ∷ past)) ≡ (reserved (world_of past) + reserved_with step) - given_back_by step w
  reserved_now w = let sum = counted in let same = given_any step w (world_of past) shuts in omega (arith, sum, same)

  pub room_left : is_release step ≡ true → 0 < reserved (world_of past)
  room_left is = let one = released_one step (world_of past) is in let sum = counted in omega (arith, sum, one.0, one.1)

  pub shut_none : shut_between (world_of past) (world_of (bare step ∷ past)) ≡ []
  shut_none = nothing_shut limit (bare step) past legal_then shuts

-- ---- the step stands in the world, and then its entry in the journal

module _ (journal : JournalRows Step) (s : State) (keeps : Keeps journal s) (step : Step) (shuts : shuts_nothing step ≡ true) (may : MayCome s.world step)
    (room : has_room journal.limit s.world (needed_by step) ≡ true)
    (d : Draft) (draft : IsDraft s step d) (m : World) (m_is : m ≡ with_draft d s.world) where
  abbrev before : History
  before = history_of journal.entries

  abbrev may_come : MayCome (world_of (history_of journal.entries)) step
  may_come = subst (λ (w : World). MayCome w step) keeps.world may

  abbrev has_space : has_room journal.limit (world_of (history_of journal.entries)) (needed_by step) ≡ true
  has_space = ap (λ (w : World). has_room journal.limit w (needed_by step)) (sym keeps.world) ∙ room

  step_in : m ≡ world_after_step step s.world
  step_in = m_is ∙ ap (with_draft d) (sym (bundles_stay step s.world shuts)) ∙ draft.world

  stepped_is : m ≡ world_after_step step (world_of (history_of journal.entries))
  stepped_is = step_in ∙ ap (world_after_step step) keeps.world

  pub room_to_add : HasRoomLeft journal step
  room_to_add = record {
    reserved = λ is.
        let some = room_left journal.limit (history_of journal.entries) keeps.legal step shuts may_come has_space is in
        let same = keeps.reserved ∙ ap reserved keeps.world in
        omega (arith, some, same);
    beside = λ is.
        let some = room_for journal.limit s.world (needed_by step) room in
        let more = needed_more step shuts is in
        let counted = counted_in journal s keeps in
        omega (arith, some, more, counted, keeps.reserved);
  }

  entries_now : s.world.entries + 1 ≡ m.entries + 1
  entries_now = ap (λ n. n + 1) (sym (leaves step s.world shuts).entries) ∙ ap (λ (w : World). w.entries + 1) (sym step_in)

  world_is : record m { entries = s.world.entries + 1 } ≡ world_of (bare step ∷ history_of journal.entries)
  world_is =
      ap (λ (n : ℕ). record m { entries = n }) entries_now
      ∙ ap (λ (w : World). record w { entries = w.entries + 1 }) stepped_is
      ∙ sym (world_then journal.limit (history_of journal.entries) keeps.legal step shuts may_come has_space)
      ∙ sym (world_of_more (bare step) (history_of journal.entries))

  module _ (new : JournalRows Step) (new_is : new ≡ with_bare step m journal) where
    history_then : history_of new.entries ≡ bare step ∷ history_of journal.entries
    history_then = ap (λ (j : JournalRows Step). history_of j.entries) new_is ∙ reverse-append journal.entries (bare step ∷ [])

    documents_stay : m.documents ≡ s.world.documents
    documents_stay = ap (λ (w : World). w.documents) step_in ∙ (leaves step s.world shuts).documents

    kept_so : Keeps new (record s { world = record m { entries = s.world.entries + 1 } })
    kept_so = record {
      world = world_is ∙ ap world_of (sym history_then);
      descriptions = keeps.descriptions ∙ ap descriptions_of (sym documents_stay);
      levels = keeps.levels;
      satisfied = λ number.
          keeps.satisfied number ∙ ap (λ (w : World). has (satisfied_in w) number) keeps.world
          ∙ satisfied_then journal.limit (history_of journal.entries) keeps.legal step shuts may_come has_space number
          ∙ ap (λ (w : World). has (satisfied_in w) number) (sym world_is);
      reserved =
          ap (λ (j : JournalRows Step). j.reserved) new_is
          ∙ ap (λ (n : ℕ). (n + reserved_with step) - given_back_by step m) (keeps.reserved ∙ ap reserved keeps.world)
          ∙ sym (reserved_now journal.limit (history_of journal.entries) keeps.legal step shuts may_come has_space m)
          ∙ ap reserved (sym world_is);
      legal = subst (λ (h : History). IsLegal new.limit h) (sym history_then)
          (subst (λ (l : ℕ). IsLegal l (bare step ∷ history_of journal.entries)) (sym (ap (λ (j : JournalRows Step). j.limit) new_is))
          (it_follows journal.limit (history_of journal.entries) keeps.legal step shuts may_come has_space, keeps.legal));
      small = subst (λ (l : ℕ). l ≤ 4194304) (sym (ap (λ (j : JournalRows Step). j.limit) new_is)) keeps.small;
    }

    pub kept : (n : ℕ) → n ≡ s.world.entries + 1 → Keeps new (record s { world = record m { entries = n } })
    kept n n_is = subst (λ (k : ℕ). Keeps new (record s { world = record m { entries = k } })) (sym n_is) kept_so

    pub grown : Grown journal.limit journal.entries step new.entries
    grown = (
      bare step,
      refl,
      it_follows journal.limit (history_of journal.entries) keeps.legal step shuts may_come has_space,
      ap (λ (j : JournalRows Step). j.entries) new_is,
    )

    pub shut : shut_between (world_at journal.entries) (world_at new.entries) ≡ []
    shut = ap (λ (h : History). shut_between (world_of (history_of journal.entries)) (world_of h)) history_then
        ∙ shut_none journal.limit (history_of journal.entries) keeps.legal step shuts may_come has_space
