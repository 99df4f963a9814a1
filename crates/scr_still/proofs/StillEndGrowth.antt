-- The world and the state behind the end of a turn without consequences.
use Rattle.std.proofs.Common.{◌≡◌, ◌+◌, ◌-◌, ◌≤◌, ◌∙◌, ◌++◌, ◌∷◌, [], ℕ, List, Bool}
use Rattle.std.proofs.Common.{true, false, Option, Some, None, ap, arith, length, refl, subst, sym}
use Rattle.std.specs.Prelude.{◌==◌, ◌&&◌, filter, map, not}
use Rattle.std.specs.List.{list_any}
use Rattle.std.proofs.lemmas.List.{reverse-append}
use Rattle.bundle_life.specs.Lives.{BundleTable}
use Rattle.callback_orders.specs.declared.callback.Outcome.{Outcome}
use Rattle.component_state.specs.declared.component.Component.{Component}
use Rattle.component_state.specs.declared.open_period.OpenPeriod.{OpenPeriod}
use Rattle.component_state.specs.Passes.{HasPassed}
use Rattle.component_state.specs.Periods.{open_after}
use Rattle.component_state.specs.Rows.{rows_of}
use Rattle.component_state.specs.Scratch.{is_satisfied}
use Rattle.component_state.proofs.Among.{among_contains, filter_all, filter_none}
use Rattle.journal_core.specs.Rooms.{JournalRows}
use Rattle.journal_core.specs.declared.entry.Entry.{Entry}
use Rattle.journal_core.specs.declared.entry.GateKey.{GateKey}
use Rattle.prop_map.specs.Words.{has, one_if}
use Rattle.scr_laws.specs.Following.{entry_of}
use Rattle.scr_laws.specs.Reserving.{given_back_by, stands_for, stands_in, tokens_dropped}
use Rattle.scr_laws.proofs.FollowingEntries.{follows}
use Rattle.scr_laws.proofs.Reserved.{reserved_then}
use Rattle.scr_laws.proofs.StandingGets.{tokens_stand, uses_stand}
use Rattle.scr_laws.specs.Opens.{meets_all, some_numbered}
use Rattle.scr_laws.specs.Stills.{bare, passed_nothing}
use Rattle.scr_laws.proofs.Described.{legal_in_order}
use Rattle.scr_laws.proofs.Legal.{legal_scratch}
use Rattle.scr_laws.proofs.Opening.{satisfied_is}
use Rattle.scr_laws.proofs.Stillness.{passes_nothing}
use Rattle.scr_state.specs.Drafts.{with_draft}
use Rattle.scr_state.specs.Keeps.{IsDraft, Keeps}
use Rattle.scr_state.specs.declared.draft.Draft.{Draft}
use Rattle.scr_state.specs.declared.state.State.{State}
use Rattle.scr_still.proofs.StillGrowth.{no_changes, none_completed, none_given, untold, world_of_more}
use Rattle.scr_still.specs.StillEnds.{HasItsRoom, IsLeaving, IsLost, gives_drain_back, held_still, is_still_end, left_world, room_given, shut_by_end, unbound_by, with_end, without}
use Rattle.scr_still.specs.declared.leavings.Leaving.{Leaving}
use Rattle.scr_still.proofs.StillHeld.{held_then}
use Rattle.scr_still.proofs.StillShut.{shut_is}
use Rattle.scr_still.proofs.StillStage.{none_stop, still_stage}
use Rattle.scr_world.specs.Calls.{Grown, world_at}
use Rattle.scr_world.specs.Consequences.{shut_between, stage_in, stage_of}
use Rattle.scr_world.specs.Instances.{ended_in, lives_on}
use Rattle.scr_world.specs.Legal.{Follows, IsLegal, MayCome}
use Rattle.scr_world.specs.Lists.{changes_between, is_active_bundle, tokens_in, unregistered_held_between, uses_in, with_gets_and_events, with_lists_of, world_after_entry, world_of}
use Rattle.scr_world.specs.Room.{has_room, needed_by, reserved}
use Rattle.scr_world.specs.Stepping.{world_after_step}
use Rattle.scr_world.specs.Steps.{History, history_of}
use Rattle.scr_world.specs.Tables.{descriptions_of}
use Rattle.scr_world.specs.Whiteboard.{platform_rows}
use Rattle.scr_world.specs.Worlds.{is_registered, satisfied_in}
use Rattle.scr_world.specs.declared.instance.Instance.{Instance}
use Rattle.scr_world.specs.declared.marks.Token.{Token}
use Rattle.scr_world.specs.declared.step.Step.{Step}
use Rattle.scr_world.specs.declared.step.Step.TheVariants.{End}
use Rattle.scr_world.specs.declared.world.World.{World}
use Rattle.service_listeners.specs.Listening.{Change, ListenerTable, after_changes}
use Rattle.service_registry.specs.Registries.{Registered, with_numbers_given}
use Rattle.service_registry.specs.declared.row.ServiceRow.{ServiceRow}
use Rattle.use_counts.specs.declared.uses.UseRow.{UseRow}

room_is : (b : Bool) → 1 + one_if b ≡ room_given b
room_is true = refl
room_is false = refl

-- ---- the entry and the world behind it

module _ (limit : ℕ) (past : History) (legal : IsLegal limit past) (turn : ℕ) (outcome : Outcome) (still : is_still_end turn outcome (world_of past) ≡ true)
    (may : MayCome (world_of past) (End turn outcome)) (room : has_room limit (world_of past) (needed_by (End turn outcome)) ≡ true) where
  abbrev step : Step
  step = End turn outcome

  passed : HasPassed (stage_of (End turn outcome) (world_of past)) (passed_nothing (stage_of (End turn outcome) (world_of past)))
  passed = passes_nothing (stage_of (End turn outcome) (world_of past)) (still_stage limit past legal turn outcome still)

  entry_is : entry_of (End turn outcome) (passed_nothing (stage_of (End turn outcome) (world_of past))) (world_of past) ≡ bare (End turn outcome)
  entry_is = ap (λ (ns : List ℕ). record { step = End turn outcome; closed = []; opened = []; stopped = ns }) (none_stop limit past legal turn outcome still)

  pub it_follows : Follows limit (bare (End turn outcome)) past
  it_follows = subst (λ (e : Entry Step). Follows limit e past) entry_is
      (follows limit past legal (End turn outcome) may room (passed_nothing (stage_of (End turn outcome) (world_of past))) passed)

  legal_then : IsLegal limit (bare (End turn outcome) ∷ past)
  legal_then = (it_follows, legal)

  open_is : (world_after_step step (world_of past)).open_periods ≡ open_after (world_after_step step (world_of past)).entries
      (world_after_step step (world_of past)).components [] [] (world_after_step step (world_of past)).open_periods
  unfolding stage_of stage_in
  open_is = passed.open_now

  abbrev m : World
  m = world_after_step (End turn outcome) (world_of past)

  abbrev later : World
  later = record m { entries = m.entries + 1 }

  lists_are : with_lists_of (bare step) (world_after_step step (world_of past)) ≡ later
  lists_are =
      ap (λ (t : BundleTable). record m {
        entries = m.entries + 1;
        bundles = t;
        open_periods = open_after m.entries m.components [] [] m.open_periods;
        registry = with_numbers_given 0 m.registry;
      }) (none_completed m.bundles)
      ∙ ap (λ (ps : List OpenPeriod). record m { entries = m.entries + 1; open_periods = ps; registry = with_numbers_given 0 m.registry }) (sym open_is)
      ∙ ap (λ (t : Registered). record m { entries = m.entries + 1; registry = t }) (none_given m.registry)

  settles : world_after_entry (bare step) (world_of past) ≡ with_gets_and_events step (world_of past) later
  unfolding world_after_entry
  settles = ap (with_gets_and_events step (world_of past)) lists_are

  uses_now : uses_in later ≡ m.uses
  unfolding world_after_step
  uses_now = filter_all (λ (u : UseRow). is_registered later u.service && is_active_bundle later u.bundle) (world_of past).uses
      (λ u here. uses_stand past u (among_contains (world_of past).uses u here))

  tokens_now : tokens_in later ≡ m.tokens
  unfolding world_after_step
  tokens_now = filter_all (λ (t : Token). is_registered later t.service && is_active_bundle later t.bundle) (world_of past).tokens
      (λ t here. tokens_stand past t (among_contains (world_of past).tokens t here))

  listeners_now : after_changes (changes_between (world_of past) later) (world_of past).listeners ≡ m.listeners
  unfolding world_after_step
  listeners_now = ap (λ (cs : List Change). after_changes cs (world_of past).listeners) (no_changes (world_of past) later refl refl) ∙ untold (world_of past).listeners

  abbrev held : List ServiceRow
  held = held_still m (unbound_by turn (world_of past))

  pub world_then : world_after_entry (bare (End turn outcome)) (world_of past) ≡ record m { entries = m.entries + 1; unregistered_held = held_still m (unbound_by turn (world_of past)) }
  world_then =
      settles
      ∙ ap (λ (us : List UseRow). record (with_gets_and_events step (world_of past) later) { uses = us }) uses_now
      ∙ ap (λ (ts : List Token). record (with_gets_and_events step (world_of past) later) { uses = m.uses; tokens = ts }) tokens_now
      ∙ ap (λ (t : ListenerTable). record (with_gets_and_events step (world_of past) later) { uses = m.uses; tokens = m.tokens; listeners = t }) listeners_now
      ∙ ap (λ (rows : List ServiceRow). record m { entries = m.entries + 1; unregistered_held = rows }) (held_then limit past legal turn outcome)

  abbrev then_world : World
  then_world = record m { entries = m.entries + 1; unregistered_held = held_still m (unbound_by turn (world_of past)) }

  then_is : world_of (bare (End turn outcome) ∷ past) ≡ then_world
  then_is = world_of_more (bare (End turn outcome)) past ∙ world_then

  -- ---- what is satisfied and reserved then, and what is shut

  abbrev met_by : List ServiceRow → List OpenPeriod → List Component → ℕ → Bool
  met_by rows periods cs number = list_any (λ (c : Component).
      (c.number == number) && (c.exists && is_satisfied ((platform_rows ++ rows) ++ rows_of periods) c)) cs

  met_then : (number : ℕ) → some_numbered (meets_all then_world) then_world.components number ≡ some_numbered (meets_all (world_of past)) (world_of past).components number
  unfolding world_after_step
  met_then number = refl

  satisfied_by : (number : ℕ) → some_numbered (meets_all (world_of (bare step ∷ past))) (world_of (bare step ∷ past)).components number
      ≡ some_numbered (meets_all (world_of past)) (world_of past).components number
  satisfied_by number = ap (λ (v : World). some_numbered (meets_all v) v.components number) then_is ∙ met_then number

  pub satisfied_then : (number : ℕ) → has (satisfied_in (world_of past)) number ≡ has (satisfied_in (world_of (bare (End turn outcome) ∷ past))) number
  satisfied_then number =
      satisfied_is (world_of past) (legal_in_order limit past legal) (legal_scratch limit past legal) number
      ∙ sym (satisfied_by number)
      ∙ sym (satisfied_is (world_of (bare step ∷ past)) (legal_in_order limit (bare step ∷ past) legal_then)
      (legal_scratch limit (bare step ∷ past) legal_then) number)

  token_stands : (t : Token) → stands_in then_world t ≡ stands_in (world_of past) t
  unfolding world_after_step
  token_stands t = refl

  none_dropped : tokens_dropped (bare step) (world_of past) ≡ []
  none_dropped = filter_none (λ (t : Token). not (stands_in (world_after_entry (bare step) (world_of past)) t)) (world_of past).tokens
      (λ t here. ap (λ (v : World). not (stands_in v t)) world_then ∙ ap not (token_stands t ∙ tokens_stand past t (among_contains (world_of past).tokens t here)))

  counted : reserved (world_of (bare step ∷ past)) + room_given (gives_drain_back turn outcome (world_of past)) ≡ reserved (world_of past)
  counted =
      let sum : reserved (world_after_entry (bare step) (world_of past)) + ((1 + one_if (gives_drain_back turn outcome (world_of past))) + length (tokens_dropped (bare step) (world_of past)))
      ≡ reserved (world_of past) + 0 = reserved_then limit past legal (bare step) may in
      let none = ap (λ (ts : List Token). length ts) none_dropped in
      let more = ap reserved (world_of_more (bare step) past) in
      let given = room_is (gives_drain_back turn outcome (world_of past)) in
      omega (arith, sum, none, more, given)

  pub reserved_now : reserved (world_of (bare (End turn outcome) ∷ past)) ≡ reserved (world_of past) - room_given (gives_drain_back turn outcome (world_of past))
  reserved_now = let sum = counted in omega (arith, sum)

  pub room_left : room_given (gives_drain_back turn outcome (world_of past)) ≤ reserved (world_of past)
  room_left = let sum = counted in omega (arith, sum)

  rows_then : then_world.bundles.rows ≡ (world_of past).bundles.rows
  unfolding world_after_step
  rows_then = refl

  periods_then : then_world.open_periods ≡ (world_of past).open_periods
  unfolding world_after_step
  periods_then = refl

  instances_then : then_world.instances ≡ filter lives_on (map (λ (i : Instance). ended_in turn outcome (world_of past).generations i) (world_of past).instances)
  unfolding world_after_step
  instances_then = refl

  pub shut_then : shut_between (world_of past) (world_of (bare (End turn outcome) ∷ past)) ≡ shut_by_end turn outcome (world_of past)
  shut_then = shut_is limit past legal turn outcome (world_of (bare step ∷ past))
      (ap (λ (v : World). v.bundles.rows) then_is ∙ rows_then) (ap (λ (v : World). v.open_periods) then_is ∙ periods_then)
      (ap (λ (v : World). v.instances) then_is ∙ instances_then)

entries_stay : (turn : ℕ) (outcome : Outcome) (w : World) → (world_after_step (End turn outcome) w).entries ≡ w.entries
unfolding world_after_step
entries_stay turn outcome w = refl

documents_stay : (turn : ℕ) (outcome : Outcome) (w : World) → (world_after_step (End turn outcome) w).documents ≡ w.documents
unfolding world_after_step
documents_stay turn outcome w = refl

-- ---- the step stands in the world, and then its entry in the journal

module _ (journal : JournalRows Step) (s : State) (keeps : Keeps journal s) (turn : ℕ) (outcome : Outcome) (still : is_still_end turn outcome s.world ≡ true)
    (may : MayCome s.world (End turn outcome)) (room : has_room journal.limit s.world (needed_by (End turn outcome)) ≡ true)
    (d : Draft) (draft : IsDraft s (End turn outcome) d) (m : World) (m_is : m ≡ with_draft d s.world) where
  still_so : is_still_end turn outcome (world_of (history_of journal.entries)) ≡ true
  still_so = subst (λ (w : World). is_still_end turn outcome w ≡ true) keeps.world still

  may_so : MayCome (world_of (history_of journal.entries)) (End turn outcome)
  may_so = subst (λ (w : World). MayCome w (End turn outcome)) keeps.world may

  room_so : has_room journal.limit (world_of (history_of journal.entries)) (needed_by (End turn outcome)) ≡ true
  room_so = subst (λ (w : World). has_room journal.limit w (needed_by (End turn outcome)) ≡ true) keeps.world room

  step_in : m ≡ world_after_step (End turn outcome) s.world
  step_in = m_is ∙ draft.world

  stepped_is : m ≡ world_after_step (End turn outcome) (world_of (history_of journal.entries))
  stepped_is = step_in ∙ ap (world_after_step (End turn outcome)) keeps.world

  module _ (l : Leaving) (leaves : IsLeaving turn outcome s.world l) where
    drain_so : l.drain ≡ gives_drain_back turn outcome (world_of (history_of journal.entries))
    drain_so = leaves.drain ∙ ap (gives_drain_back turn outcome) keeps.world

    pub has_its_room : HasItsRoom l.drain journal
    has_its_room =
        let some = room_left journal.limit (history_of journal.entries) keeps.legal turn outcome still_so may_so room_so in
        let same = keeps.reserved ∙ ap reserved keeps.world in
        let given = ap room_given drain_so in
        omega (arith, some, same, given)

    module _ (lost : Option ℕ) (lost_is : IsLost m l.unbound lost) where
      held_so : without lost m.unregistered_held ≡ held_still m (unbound_by turn (world_of (history_of journal.entries)))
      held_so = lost_is ∙ ap (held_still m) (leaves.unbound ∙ ap (unbound_by turn) keeps.world)

      world_is : left_world l lost m ≡ world_of (bare (End turn outcome) ∷ history_of journal.entries)
      world_is =
          ap (λ (rows : List ServiceRow). record m { entries = l.entries; unregistered_held = rows }) held_so
          ∙ ap (λ (n : ℕ). record m { entries = n; unregistered_held = held_still m (unbound_by turn (world_of (history_of journal.entries))) })
          (leaves.entries ∙ ap (λ (n : ℕ). n + 1) (sym (entries_stay turn outcome s.world) ∙ ap (λ (w : World). w.entries) (sym step_in)))
          ∙ ap (λ (w : World). record w { entries = w.entries + 1; unregistered_held = held_still w (unbound_by turn (world_of (history_of journal.entries))) }) stepped_is
          ∙ sym (world_then journal.limit (history_of journal.entries) keeps.legal turn outcome still_so may_so room_so)
          ∙ sym (world_of_more (bare (End turn outcome)) (history_of journal.entries))

      module _ (new : JournalRows Step) (new_is : new ≡ with_end turn outcome l.drain journal) where
        history_then : history_of new.entries ≡ bare (End turn outcome) ∷ history_of journal.entries
        history_then = ap (λ (j : JournalRows Step). history_of j.entries) new_is ∙ reverse-append journal.entries (bare (End turn outcome) ∷ [])

        documents_so : m.documents ≡ s.world.documents
        documents_so = ap (λ (w : World). w.documents) step_in ∙ documents_stay turn outcome s.world

        kept_so : Keeps new (record s { world = left_world l lost m })
        kept_so = record {
          world = world_is ∙ ap world_of (sym history_then);
          descriptions = keeps.descriptions ∙ ap descriptions_of (sym documents_so);
          levels = keeps.levels;
          satisfied = λ number.
              keeps.satisfied number ∙ ap (λ (w : World). has (satisfied_in w) number) keeps.world
              ∙ satisfied_then journal.limit (history_of journal.entries) keeps.legal turn outcome still_so may_so room_so number
              ∙ ap (λ (w : World). has (satisfied_in w) number) (sym world_is);
          reserved =
              ap (λ (j : JournalRows Step). j.reserved) new_is
              ∙ ap (λ (n : ℕ). n - room_given l.drain) (keeps.reserved ∙ ap reserved keeps.world)
              ∙ ap (λ b. reserved (world_of (history_of journal.entries)) - room_given b) drain_so
              ∙ sym (reserved_now journal.limit (history_of journal.entries) keeps.legal turn outcome still_so may_so room_so)
              ∙ ap reserved (sym world_is);
          legal = subst (λ (h : History). IsLegal new.limit h) (sym history_then)
              (subst (λ (n : ℕ). IsLegal n (bare (End turn outcome) ∷ history_of journal.entries)) (sym (ap (λ (j : JournalRows Step). j.limit) new_is))
              (it_follows journal.limit (history_of journal.entries) keeps.legal turn outcome still_so may_so room_so, keeps.legal));
          small = subst (λ (l : ℕ). l ≤ 4194304) (sym (ap (λ (j : JournalRows Step). j.limit) new_is)) keeps.small;
        }

        pub kept : (now : World) → now ≡ left_world l lost m → Keeps new (record s { world = now })
        kept now now_is = subst (λ (w : World). Keeps new (record s { world = w })) (sym now_is) kept_so

        pub grown : Grown journal.limit journal.entries (End turn outcome) new.entries
        grown = (
          bare (End turn outcome),
          refl,
          it_follows journal.limit (history_of journal.entries) keeps.legal turn outcome still_so may_so room_so,
          ap (λ (j : JournalRows Step). j.entries) new_is,
        )

        pub shut : (keys : List GateKey) → keys ≡ l.shut → keys ≡ shut_between (world_at journal.entries) (world_at new.entries)
        shut keys keys_are =
            keys_are ∙ leaves.shut ∙ ap (shut_by_end turn outcome) keeps.world
            ∙ sym (shut_then journal.limit (history_of journal.entries) keeps.legal turn outcome still_so may_so room_so)
            ∙ ap (λ (h : History). shut_between (world_of (history_of journal.entries)) (world_of h)) (sym history_then)
