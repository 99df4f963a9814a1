-- The gates are as the journal has them, at each entry.
use Rattle.std.proofs.Common.{◌≡◌, ℕ, ◌+◌, ◌*◌, ◌%◌, ◌<◌, ◌≤◌, List, [], ◌∷◌, length, replicate, refl, sym, ap, ◌∙◌, subst, cond, arith, Bool, true, false, ◌&&◌, ◌||◌, Option, Some, None, Result, Ok, Err}
use Rattle.std.specs.Prelude.{◌==◌, IfSome, OnErr, filter, find, map, not, option_map, slice_index}
use Rattle.std.specs.List.{Contains, list_any}
use Rattle.std.proofs.lemmas.Bool.{and_from, and_parts, both_ways, eq-eqb, eqb-true}
use Rattle.atomic_table.specs.Seated.{TableId}
use Rattle.call_gate.specs.Calls.{slots_in}
use Rattle.call_gate.specs.Holders.{HeldKey}
use Rattle.callback_orders.specs.declared.callback.Outcome.{Outcome}
use Rattle.component_state.specs.Inside.Ready.{are_apart}
use Rattle.component_state.proofs.Apart.{any_from, in_first, in_rest, not_true}
use Rattle.gate_keeper.specs.Keepers.{AreOpen, AreToShut, CanReopen, HasAll, IsKept, IsOrderly, KeeperView, NoneShut, ShutsAll, Takes, all_shelved, is_shelved, reopened, with_level, with_more, with_shut_all}
use Rattle.gate_keeper.proofs.Alone.{all_gate, all_none, all_places, first_none, reopened_none}
use Rattle.gate_keeper.proofs.Known.{can_reopen, can_shut}
use Rattle.gate_keeper.proofs.Levels.{all_shut_kept, first_kept, kept_alike, orderly_set, reopened_kept, taken_kept}
use Rattle.journal_core.specs.declared.entry.Entry.{Entry}
use Rattle.journal_core.specs.declared.entry.GateKey.{GateKey}
use Rattle.prop_map.specs.Words.{has}
use Rattle.hall_locked.specs.Locks.{HasGates}
use Rattle.hall_locked.specs.Moving.{reopened_if}
use Rattle.hall_locked.specs.OwnedCores.{OwnedView}
use Rattle.hall_locked.proofs.Awaiting.{HasSlots, has_slots}
use Rattle.hall_locked.proofs.Generations.{generations_low}
use Rattle.platform_hall.specs.Platforms.{BeginsTurn, world}
use Rattle.platform_hall.proofs.Settlings.{HasLegal}
use Rattle.platform_hall.proofs.Steps.{grown_legal, grown_shorter, history_append}
use Rattle.platform_hall.proofs.Turns.{begins_next, is_begin}
use Rattle.scr_core.specs.Cores.{CoreView}
use Rattle.scr_core.proofs.Commanded.{none_shut}
use Rattle.scr_laws.specs.Gates.{shuts_nothing}
use Rattle.scr_laws.proofs.CreatedLaws.{entries_of}
use Rattle.scr_laws.proofs.InstanceLemmas.{found_was}
use Rattle.scr_laws.proofs.Listed.{any_was}
use Rattle.scr_laws.proofs.NothingShut.{nothing_shut}
use Rattle.scr_promises.specs.Levels.{MovesLevels, is_drained_in, level_drained, level_reopened, level_shut, reopened_in, slot_level, slot_stage}
use Rattle.scr_promises.proofs.LevelLaws.{moves_levels}
use Rattle.scr_world.specs.Calls.{Commands, Drains, Grown, GrownIf, awaits_drain_at, world_at}
use Rattle.scr_world.specs.Consequences.{begins_draining, gate_of, reopened_by, shut_between}
use Rattle.scr_world.specs.Dues.{next_begin}
use Rattle.scr_world.specs.Instances.{becomes_active, has_turn, next_generation}
use Rattle.scr_world.specs.Legal.{IsLegal, awaits_drain}
use Rattle.scr_world.specs.Lists.{world_of}
use Rattle.scr_world.specs.Replies.{changes}
use Rattle.scr_world.specs.Steps.{History, history_of}
use Rattle.scr_world.specs.declared.command.Command.{Command}
use Rattle.scr_world.specs.declared.instance.Instance.{Instance}
use Rattle.scr_world.specs.declared.reply.Accepted.{Accepted}
use Rattle.scr_world.specs.declared.reply.CoreFault.{CoreFault}
use Rattle.scr_world.specs.declared.step.Step.{Step}
use Rattle.scr_world.specs.declared.step.Step.TheVariants.{Command as Commanded, Begin, End, Drained, Got, Released}
use Rattle.scr_world.specs.declared.world.World.{World}

-- ---- gates that were just made

closed_first : (slot : ℕ) → slot_level (world_at []) slot ≡ 3
unfolding world_of
closed_first slot = refl

pub first_gates : (core : CoreView) → core.journal ≡ [] → (n : ℕ) (gate : TableId) (k : KeeperView) → n ≡ 70000 → slots_in gate ≡ n → k ≡ record { gate = gate; levels = replicate (n + 1) 3; places = 16777215; shelf = []; visited = [] }
    → HasGates (world core) k
first_gates core empty n gate k many slots is = subst (λ (x : KeeperView). HasGates (world core) x) (sym is) (record {
  slots = slots ∙ many;
  levels = subst (λ m. IsKept (slot_level (world core)) (record { gate = gate; levels = replicate (m + 1) 3; places = 16777215; shelf = []; visited = [] })) slots
      (first_kept gate 16777215 (slot_level (world core)) (λ slot near. ap (λ (j : List (Entry Step)). slot_level (world_at j) slot) empty ∙ closed_first slot));
  places = refl;
  none_shut = first_none (n + 1);
})

-- ---- which keys are to be shut

-- the gates of some instances, of which each has a slot of its own below these, are to be shut where each should be open
slot_away : (q : Instance → Bool) (is : List Instance) (slot : ℕ) → has (map (λ (i : Instance). i.slot) is) slot ≡ false → is_shelved (map gate_of (filter q is)) slot ≡ false
slot_away q [] slot free = refl
slot_away q (i ∷ is) slot free = go (q i) (i.slot == slot) refl free (slot_away q is slot)
  where
    go : (k b : Bool) → (i.slot == slot) ≡ b → (b || has (map (λ (i : Instance). i.slot) is) slot) ≡ false → (has (map (λ (i : Instance). i.slot) is) slot ≡ false → is_shelved (map gate_of (filter q is)) slot ≡ false)
        → is_shelved (map gate_of (cond k (i ∷ filter q is) (filter q is))) slot ≡ false
    go k true its h later = cc
    go true false other h later = ap (λ b. b || is_shelved (map gate_of (filter q is)) slot) other ∙ later h
    go false false other h later = later h

to_shut : (level : ℕ → ℕ) (slots : ℕ) (q : Instance → Bool) (is : List Instance) → are_apart (map (λ (i : Instance). i.slot) is) ≡ true → ((i : Instance) → Contains is i → i.slot < slots)
    → ((key : GateKey) → Contains (map gate_of (filter q is)) key → level key.slot ≡ 4 * key.generation) → AreToShut level slots (map gate_of (filter q is))
to_shut level slots q [] apart within on = tt
to_shut level slots q (i ∷ is) apart within on = go (q i) refl on (to_shut level slots q is parts.1 (λ j h. within j (in_rest i is j h)))
  where
    parts : (not (has (map (λ (i : Instance). i.slot) is) i.slot) ≡ true) × (are_apart (map (λ (i : Instance). i.slot) is) ≡ true)
    parts = and_parts (not (has (map (λ (i : Instance). i.slot) is) i.slot)) (are_apart (map (λ (i : Instance). i.slot) is)) apart

    go : (k : Bool) → q i ≡ k → ((key : GateKey) → Contains (map gate_of (cond k (i ∷ filter q is) (filter q is))) key → level key.slot ≡ 4 * key.generation)
        → (((key : GateKey) → Contains (map gate_of (filter q is)) key → level key.slot ≡ 4 * key.generation) → AreToShut level slots (map gate_of (filter q is)))
        → AreToShut level slots (map gate_of (cond k (i ∷ filter q is) (filter q is)))
    go true its each later = (
      within i (in_first i is),
      each (gate_of i) (in_first (gate_of i) (map gate_of (filter q is))),
      slot_away q is i.slot (not_true (has (map (λ (i : Instance). i.slot) is) i.slot) parts.0),
      later (λ key h. each key (in_rest (gate_of i) (map gate_of (filter q is)) key h)),
    )
    go false off each later = later each

between_to_shut : (level : ℕ → ℕ) (slots : ℕ) (w now : World) → are_apart (map (λ (i : Instance). i.slot) now.instances) ≡ true → ((i : Instance) → Contains now.instances i → i.slot < slots)
    → ((key : GateKey) → Contains (shut_between w now) key → level key.slot ≡ 4 * key.generation) → AreToShut level slots (shut_between w now)
unfolding shut_between
between_to_shut level slots w now apart within on = to_shut level slots (begins_draining w now) now.instances apart within on

-- ---- an entry that reopens and shuts

next_level : (g s n : ℕ) → s ≡ 3 → n ≡ g + 1 → 4 * g + s + 1 ≡ 4 * n
next_level g s n closed next = omega (arith, closed, next)

-- a keeper once the gate is reopened that an entry reopens
record IsBetween (level : ℕ → ℕ) (k between : KeeperView) : Type 0 where
  pub levels : IsKept level between
  pub orderly_then : IsOrderly between
  pub none : NoneShut between
  pub gate_is : between.gate ≡ k.gate
  pub places_are : between.places ≡ k.places

module _ (step : Step) (w now : World) (moves : MovesLevels step w now) (fit : HasSlots now) (k : KeeperView) (orderly : IsOrderly k) (gates : HasGates w k)
    (opened : (key : GateKey) → reopened_in step w ≡ Some key → (key.slot < 70000) × (key.generation < 274877906944)) where
  -- the levels once the gate is reopened that the step reopens
  abbrev level_between : ℕ → ℕ
  level_between slot = level_reopened (reopened_in step w) slot (slot_level w slot)

  can_open : (key : GateKey) → reopened_in step w ≡ Some key → CanReopen k key
  can_open key is =
      let closed = moves.reopened key is in
      let low = opened key is in
      can_reopen (slot_level w) k orderly gates.levels key (subst (λ n. key.slot < n) (sym gates.slots) low.0)
      (next_level (slice_index w.generations key.slot) (slot_stage w key.slot) key.generation closed.0 closed.1) low.1

  between : (o : Option GateKey) → reopened_in step w ≡ o → IsBetween level_between k (reopened_if o k)
  between None is = record {
    levels = kept_alike (slot_level w) level_between k (λ slot. sym (ap (λ o. level_reopened o slot (slot_level w slot)) is)) gates.levels;
    orderly_then = orderly;
    none = gates.none_shut;
    gate_is = refl;
    places_are = refl;
  }
  between (Some key) is = record {
    levels = kept_alike (with_level (slot_level w) key.slot (4 * key.generation)) level_between (reopened key k) (λ slot. sym (ap (λ o. level_reopened o slot (slot_level w slot)) is))
        (reopened_kept (slot_level w) k key orderly gates.levels (can_open key is));
    orderly_then = orderly_set k key.slot (4 * key.generation) (can_open key is).posted orderly;
    none = reopened_none key k gates.none_shut;
    gate_is = refl;
    places_are = refl;
  }

  abbrev start : KeeperView
  start = reopened_if (reopened_in step w) k

  its : IsBetween level_between k (reopened_if (reopened_in step w) k)
  its = between (reopened_in step w) refl

  pub reopens : IfSome (reopened_in step w) (λ key. CanReopen k key)
  reopens = go (reopened_in step w) refl
    where
      go : (o : Option GateKey) → reopened_in step w ≡ o → IfSome o (λ key. CanReopen k key)
      go None is = tt
      go (Some key) is = can_open key is

  pub opens : AreOpen (reopened_if (reopened_in step w) k) (shut_between w now)
  opens = can_shut level_between start its.orderly_then its.levels (shut_between w now)
      (between_to_shut level_between (slots_in start.gate) w now fit.apart (λ i h. subst (λ n. i.slot < n) (sym (ap slots_in its.gate_is ∙ gates.slots)) (fit.within i h)) (λ key h. moves.shut key h))

  -- once the gates are shut that the entry shuts, all is as the world has it, where no drain is posted
  pub gates_then : ((slot : ℕ) → is_drained_in step w slot ≡ false) → (after : KeeperView) → ShutsAll (shut_between w now) (reopened_if (reopened_in step w) k) after
      → after ≡ all_shelved (shut_between w now) (reopened_if (reopened_in step w) k) → HasGates now after
  gates_then undrained after shuts is = record {
    slots = ap (λ (x : KeeperView). slots_in x.gate) is ∙ ap slots_in (all_gate (shut_between w now) start) ∙ ap slots_in its.gate_is ∙ gates.slots;
    levels = kept_alike (with_shut_all level_between (shut_between w now)) (slot_level now) after
        (λ slot. sym (moves.levels slot ∙ ap (λ b. level_shut (shut_between w now) slot (level_drained b (level_between slot))) (undrained slot)))
        (all_shut_kept level_between (shut_between w now) start after its.orderly_then its.levels opens shuts);
    places = ap (λ (x : KeeperView). x.places) is ∙ all_places (shut_between w now) start ∙ its.places_are ∙ gates.places;
    none_shut = subst NoneShut (sym is) (all_none (shut_between w now) start its.none);
  }

-- ---- an entry of a legal journal

module _ (limit : ℕ) (old new : List (Entry Step)) (step : Step) (legal : IsLegal limit (history_of old)) (grown : Grown limit old step new) where
  moves_then : MovesLevels step (world_at old) (world_at new)
  moves_then =
      let entry = grown.0 in
      subst (λ (s : Step). MovesLevels s (world_at old) (world_at new)) grown.1
      (subst (λ (h : History). MovesLevels entry.step (world_at old) (world_of h)) (sym (ap history_of grown.3 ∙ history_append old entry)) (moves_levels limit entry (history_of old) (grown.2, legal)))

  fit_then : HasSlots (world_at new)
  fit_then = has_slots limit (history_of new) (grown_legal limit old new step legal grown)

  none_between : shuts_nothing step ≡ true → shut_between (world_at old) (world_at new) ≡ []
  none_between is =
      let entry = grown.0 in
      subst (λ (h : History). shut_between (world_at old) (world_of h) ≡ []) (sym (ap history_of grown.3 ∙ history_append old entry))
      (nothing_shut limit entry (history_of old) (grown.2, legal) (ap shuts_nothing grown.1 ∙ is))

  -- the level of a slot is as before but where its drain is posted, where nothing is reopened and nothing shut
  level_then : shuts_nothing step ≡ true → reopened_in step (world_at old) ≡ None → (slot : ℕ) → slot_level (world_at new) slot ≡ level_drained (is_drained_in step (world_at old) slot) (slot_level (world_at old) slot)
  level_then nothing none slot =
      let drained = is_drained_in step (world_at old) slot in
      let was = slot_level (world_at old) slot in
      moves_then.levels slot
      ∙ ap (λ ks. level_shut ks slot (level_drained drained (level_reopened (reopened_in step (world_at old)) slot was))) (none_between nothing)
      ∙ ap (λ o. level_drained drained (level_reopened o slot was)) none

  -- an entry that changes no gate
  pub gates_still : shuts_nothing step ≡ true → reopened_in step (world_at old) ≡ None → ((slot : ℕ) → is_drained_in step (world_at old) slot ≡ false) → (k : KeeperView) → HasGates (world_at old) k → HasGates (world_at new) k
  gates_still nothing none undrained k gates = record {
    slots = gates.slots;
    levels = kept_alike (slot_level (world_at old)) (slot_level (world_at new)) k (λ slot. sym (level_then nothing none slot ∙ ap (λ b. level_drained b (slot_level (world_at old) slot)) (undrained slot))) gates.levels;
    places = gates.places;
    none_shut = gates.none_shut;
  }

-- ---- a command

nothing_opens : (key : GateKey) → None ≡ Some key → (key.slot < 70000) × (key.generation < 274877906944)
nothing_opens key is = cc

module _ (limit : ℕ) (old new : List (Entry Step)) (command : Command) (accepted : Accepted) (legal : IsLegal limit (history_of old)) (takes : Commands limit old command (Ok accepted) new) (k : KeeperView) (orderly : IsOrderly k)
    (gates : HasGates (world_at old) k) where
  shut_none : new ≡ old → shut_between (world_at old) (world_at new) ≡ []
  shut_none same = ap (λ (j : List (Entry Step)). shut_between (world_at old) (world_at j)) same ∙ none_shut (world_at old)

  pub command_opens : AreOpen k accepted.shut
  command_opens = subst (λ ks. AreOpen k ks) (sym takes.1) (go (changes limit (world_at old) command) takes.2)
    where
      go : (b : Bool) → GrownIf b limit old (Commanded command) new → AreOpen k (shut_between (world_at old) (world_at new))
      go true grown =
          opens (Commanded command) (world_at old) (world_at new) (moves_then limit old new (Commanded command) legal grown) (fit_then limit old new (Commanded command) legal grown) k orderly gates nothing_opens
      go false same = subst (λ ks. AreOpen k ks) (sym (shut_none same)) tt

  pub command_gates : (after : KeeperView) → ShutsAll accepted.shut k after → (HasAll k → after ≡ all_shelved accepted.shut k) → HasGates (world_at new) after
  command_gates after shuts alone =
      go (changes limit (world_at old) command) takes.2 (subst (λ ks. ShutsAll ks k after) takes.1 shuts) (subst (λ ks. after ≡ all_shelved ks k) takes.1 (alone gates.places))
    where
      go : (b : Bool) → GrownIf b limit old (Commanded command) new → ShutsAll (shut_between (world_at old) (world_at new)) k after → after ≡ all_shelved (shut_between (world_at old) (world_at new)) k → HasGates (world_at new) after
      go true grown all is =
          gates_then (Commanded command) (world_at old) (world_at new) (moves_then limit old new (Commanded command) legal grown) (fit_then limit old new (Commanded command) legal grown) k orderly gates nothing_opens (λ slot. refl) after all is
      go false same all is =
          subst (λ (x : KeeperView). HasGates (world_at new) x) (sym (is ∙ ap (λ ks. all_shelved ks k) (shut_none same)))
          (subst (λ (j : List (Entry Step)). HasGates (world_at j) k) (sym same) gates)

-- ---- the end of a turn

few_openings : (generation was entries long limit : ℕ) → generation ≡ was + 1 → was ≤ long → entries ≡ long → entries + 1 ≤ limit → limit ≤ 4194304 → generation < 274877906944
few_openings generation was entries long limit next low same fits few = omega (arith, next, low, same, fits, few)

module _ (limit : ℕ) (old new : List (Entry Step)) (turn : ℕ) (outcome : Outcome) (legal : IsLegal limit (history_of old)) (grown : Grown limit old (End turn outcome) new) (few : limit ≤ 4194304) (k : KeeperView) (orderly : IsOrderly k)
    (gates : HasGates (world_at old) k) where
  low_slot : (key : GateKey) → reopened_by turn outcome (world_at old) ≡ Some key → key.slot < 70000
  low_slot key is = go (find (λ (i : Instance). has_turn turn i && becomes_active outcome i) (world_at old).instances) refl is
    where
      go : (o : Option Instance) → find (λ (i : Instance). has_turn turn i && becomes_active outcome i) (world_at old).instances ≡ o
          → option_map (λ (i : Instance). record { slot = i.slot; generation = next_generation (world_at old).generations i }) o ≡ Some key → key.slot < 70000
      go None none made = cc
      go (Some i) found made =
          let gate : GateKey = record { slot = i.slot; generation = next_generation (world_at old).generations i } in
          let same : gate ≡ key = cc in
          let was = found_was (λ (j : Instance). has_turn turn j && becomes_active outcome j) (world_at old).instances i found in
          subst (λ (x : GateKey). x.slot < 70000) same ((has_slots limit (history_of old) legal).within i was.0)

  opened_low : (key : GateKey) → reopened_in (End turn outcome) (world_at old) ≡ Some key → (key.slot < 70000) × (key.generation < 274877906944)
  opened_low key is = (
    low_slot key is,
    few_openings key.generation (slice_index (world_at old).generations key.slot) (world_at old).entries (length (history_of old)) limit ((moves_then limit old new (End turn outcome) legal grown).reopened key is).1
        (generations_low (history_of old) key.slot) (entries_of (history_of old)) (grown_shorter limit old new (End turn outcome) grown) few,
  )

  pub end_reopens : (o : Option GateKey) → o ≡ reopened_by turn outcome (world_at old) → IfSome o (λ key. CanReopen k key)
  end_reopens o is = subst (λ p. IfSome p (λ key. CanReopen k key)) (sym is)
      (reopens (End turn outcome) (world_at old) (world_at new) (moves_then limit old new (End turn outcome) legal grown) (fit_then limit old new (End turn outcome) legal grown) k orderly gates opened_low)

  pub end_opens : (o : Option GateKey) (keys : List GateKey) → o ≡ reopened_by turn outcome (world_at old) → keys ≡ shut_between (world_at old) (world_at new) → AreOpen (reopened_if o k) keys
  end_opens o keys is are = subst (λ p. AreOpen (reopened_if p k) keys) (sym is) (subst (λ ks. AreOpen (reopened_if (reopened_by turn outcome (world_at old)) k) ks) (sym are)
      (opens (End turn outcome) (world_at old) (world_at new) (moves_then limit old new (End turn outcome) legal grown) (fit_then limit old new (End turn outcome) legal grown) k orderly gates opened_low))

  pub end_gates : (o : Option GateKey) (keys : List GateKey) → o ≡ reopened_by turn outcome (world_at old) → keys ≡ shut_between (world_at old) (world_at new) → (after : KeeperView) → ShutsAll keys (reopened_if o k) after
      → (HasAll k → after ≡ all_shelved keys (reopened_if o k)) → HasGates (world_at new) after
  end_gates o keys is are after shuts alone =
      let all = subst (λ p. ShutsAll (shut_between (world_at old) (world_at new)) (reopened_if p k) after) is (subst (λ ks. ShutsAll ks (reopened_if o k) after) are shuts) in
      let same = subst (λ p. after ≡ all_shelved (shut_between (world_at old) (world_at new)) (reopened_if p k)) is (subst (λ ks. after ≡ all_shelved ks (reopened_if o k)) are (alone gates.places)) in
      gates_then (End turn outcome) (world_at old) (world_at new) (moves_then limit old new (End turn outcome) legal grown) (fit_then limit old new (End turn outcome) legal grown) k orderly gates opened_low (λ slot. refl) after all same

-- ---- a drain that is posted

-- an instance with the number of another, and this slot
abbrev posts : Instance → ℕ → Instance → Bool
posts i slot j = (j.number == i.number) && (j.slot == slot)

module _ (limit : ℕ) (old new : List (Entry Step)) (legal : IsLegal limit (history_of old)) (k after : KeeperView) (gates : HasGates (world_at old) k) (drain : HeldKey) (takes : Takes drain k after) where
  is_posted : (i : Instance) → find (awaits_drain_at (world_at old) drain.key) (world_at old).instances ≡ Some i → (slot : ℕ) → is_drained_in (Drained i.number) (world_at old) slot ≡ (drain.key.slot == slot)
  is_posted i found slot = go (drain.key.slot == slot) refl (list_any (posts i slot) (world_at old).instances) refl
    where
      was : Contains (world_at old).instances i × (awaits_drain_at (world_at old) drain.key i ≡ true)
      was = found_was (awaits_drain_at (world_at old) drain.key) (world_at old).instances i found

      its_slot : i.slot ≡ drain.key.slot
      its_slot =
          let keyed = and_parts ((i.slot == drain.key.slot) && (i.generation == drain.key.generation)) (awaits_drain (world_at old) i) was.1 in
          eqb-true i.slot drain.key.slot (and_parts (i.slot == drain.key.slot) (i.generation == drain.key.generation) keyed.0).0

      go : (b : Bool) → (drain.key.slot == slot) ≡ b → (c : Bool) → list_any (posts i slot) (world_at old).instances ≡ c → c ≡ b
      go true here true on = refl
      go false other false off = refl
      go true here false off = sym off ∙ any_from (posts i slot) (world_at old).instances i was.0 (and_from (i.number == i.number) (i.slot == slot) (eq-eqb i.number i.number refl) (eq-eqb i.slot slot (its_slot ∙ eqb-true drain.key.slot slot here)))
      go false other true on =
          let one = any_was (posts i slot) (world_at old).instances on in
          let both = and_parts (one.0.number == i.number) (one.0.slot == slot) one.1.1 in
          let same = (has_slots limit (history_of old) legal).single one.0 i one.1.0 was.0 (eqb-true one.0.number i.number both.0) in
          sym (eq-eqb drain.key.slot slot (sym its_slot ∙ ap (λ (j : Instance). j.slot) (sym same) ∙ eqb-true one.0.slot slot both.1)) ∙ other

  pub drain_gates : Drains limit old drain.key new → HasGates (world_at new) after
  drain_gates (i, found, grown) = record {
    slots = ap (λ (x : KeeperView). slots_in x.gate) takes.rest ∙ gates.slots;
    levels = kept_alike (with_more (slot_level (world_at old)) drain.key.slot 2) (slot_level (world_at new)) after
        (λ slot. sym (level_then limit old new (Drained i.number) legal grown refl refl slot ∙ ap (λ b. level_drained b (slot_level (world_at old) slot)) (is_posted i found slot)))
        (taken_kept (slot_level (world_at old)) drain k after gates.levels takes);
    places = ap (λ (x : KeeperView). x.places) takes.rest ∙ gates.places;
    none_shut = λ slot is. gates.none_shut slot (ap (λ (x : KeeperView). slice_index x.levels slot % 4) (sym takes.rest) ∙ is);
  }

-- a drain that is put back
pub put_back : (drain : HeldKey) (k after : KeeperView) → Takes drain k after → record after { shelf = drain.key ∷ after.shelf } ≡ k
put_back drain k after takes = ap (λ (x : KeeperView). record x { shelf = drain.key ∷ after.shelf }) takes.rest ∙ ap (λ (ks : List GateKey). record k { shelf = ks }) (sym takes.shelf)

-- ---- a turn that begins

never : {A : Type 0} (w : World) (step : Step) → next_begin w ≡ Some step → is_begin step ≡ false → A
never w step is other = absurd (both_ways (is_begin step) other (begins_next w step is))

begin_gates : (limit : ℕ) (old new : List (Entry Step)) (step : Step) → IsLegal limit (history_of old) → next_begin (world_at old) ≡ Some step → Grown limit old step new → (k : KeeperView) → HasGates (world_at old) k → HasGates (world_at new) k
begin_gates limit old new (Begin turn instance configuration consumer callback chosen) legal is grown k gates =
    gates_still limit old new (Begin turn instance configuration consumer callback chosen) legal grown refl refl (λ slot. refl) k gates
begin_gates limit old new (Commanded command) legal is grown k gates = never (world_at old) (Commanded command) is refl
begin_gates limit old new (End turn outcome) legal is grown k gates = never (world_at old) (End turn outcome) is refl
begin_gates limit old new (Drained instance) legal is grown k gates = never (world_at old) (Drained instance) is refl
begin_gates limit old new (Got bundle service) legal is grown k gates = never (world_at old) (Got bundle service) is refl
begin_gates limit old new (Released place) legal is grown k gates = never (world_at old) (Released place) is refl

pub begun_gates : {O : Type 0} (before after : OwnedView O) (answer : Result (Option ℕ) CoreFault) → HasLegal before.core → BeginsTurn before.core answer after.core → OnErr answer (after ≡ before) → (k : KeeperView)
    → HasGates (world before.core) k → HasGates (world after.core) k
begun_gates {O} before after (Ok None) legal begins same k gates = subst (λ (c : CoreView). HasGates (world c) k) (sym begins.1) gates
begun_gates {O} before after (Ok (Some turn)) legal (work, number, (limits, next, (step, is, named, grown)), runs) same k gates = begin_gates before.core.limits.journal before.core.journal after.core.journal step legal is grown k gates
begun_gates {O} before after (Err fault) legal begins same k gates = subst (λ (l : OwnedView O). HasGates (world l.core) k) (sym same) gates
