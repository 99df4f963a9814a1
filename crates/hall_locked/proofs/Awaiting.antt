-- Whose drain is awaited, by what the keeper knows, and what it knows of each living instance.
use Rattle.std.proofs.Common.{◌≡◌, ℕ, ◌+◌, ◌*◌, ◌%◌, ◌<◌, ◌≤◌, List, [], ◌∷◌, get_or, refl, sym, ap, ◌∙◌, subst, cond, arith, Bool, true, false, ◌&&◌, ◌||◌, inl, inr, ◌⊎◌, Option, Some, None}
use Rattle.std.specs.Prelude.{◌==◌, find, map, not, slice_index}
use Rattle.std.specs.List.{Contains, list_any}
use Rattle.std.specs.Option.{option_map_or}
use Rattle.std.proofs.lemmas.Bool.{and_from, and_parts, both_ways, eq-eqb, eqb-true}
use Rattle.call_gate.specs.Calls.{KnownClaimed, slots_in}
use Rattle.call_gate.specs.Holders.{HeldKey}
use Rattle.component_state.specs.Inside.Ready.{are_apart}
use Rattle.component_state.proofs.Apart.{any_from, in_rest, not_true, one_of}
use Rattle.gate_keeper.specs.Keepers.{IsOrderly, KeeperView, KnowsKey, Takes, is_shelved, is_some_key, level_kept}
use Rattle.gate_keeper.proofs.Alone.{shelved_is_shut, shut_is_shelved}
use Rattle.gate_keeper.proofs.Known.{knows_key}
use Rattle.journal_core.specs.declared.entry.GateKey.{GateKey}
use Rattle.hall_locked.specs.Locks.{HasGates, KnowsGates}
use Rattle.platform_hall.proofs.Turns.{turns_legal}
use Rattle.scr_laws.proofs.Listed.{any_was}
use Rattle.scr_laws.proofs.InstanceLemmas.{found_was}
use Rattle.scr_laws.proofs.SlotLaws.{slots_differ_in}
use Rattle.scr_laws.proofs.WithinLaws.{all_within}
use Rattle.scr_promises.specs.Levels.{gate_stage, slot_level, slot_stage}
use Rattle.scr_promises.proofs.AtSlots.{at_own}
use Rattle.scr_promises.proofs.LevelLaws.{drained_end, last_generation}
use Rattle.scr_world.specs.Calls.{awaits_drain_at}
use Rattle.scr_world.specs.Consequences.{gate_of, is_draining}
use Rattle.scr_world.specs.Instances.{is_active_instance}
use Rattle.scr_world.specs.Legal.{IsLegal, awaits_drain}
use Rattle.scr_world.specs.Lists.{world_of}
use Rattle.scr_world.specs.Steps.{History}
use Rattle.scr_world.specs.Views.{ends}
use Rattle.scr_world.specs.Worlds.{all_instances}
use Rattle.scr_world.specs.declared.instance.Instance.{Instance}
use Rattle.scr_world.specs.declared.world.World.{World}

-- what is so of the slots in the world of every legal journal
pub record HasSlots (w : World) : Type 0 where
  pub apart : are_apart (map (λ (i : Instance). i.slot) w.instances) ≡ true
  pub within : (i : Instance) → Contains w.instances i → i.slot < 70000
  pub last : (i : Instance) → Contains w.instances i → is_active_instance i ≡ true → i.generation ≡ slice_index w.generations i.slot
  pub ending : (i : Instance) → Contains w.instances i → is_active_instance i ≡ true → i.drained ≡ true → ends w i ≡ true
  pub single : (i j : Instance) → Contains w.instances i → Contains w.instances j → i.number ≡ j.number → i ≡ j

pub has_slots : (limit : ℕ) (past : History) → IsLegal limit past → HasSlots (world_of past)
has_slots limit past legal = record {
  apart = slots_differ_in past;
  within = (all_within limit past legal).slots;
  last = last_generation limit past legal;
  ending = drained_end limit past legal;
  single = λ i j h k same.
      one_of (λ (x : Instance). x.number) (all_instances (world_of past)) (turns_legal limit past legal).ordered.apart i j
      (in_rest (world_of past).whiteboard (world_of past).instances i h) (in_rest (world_of past).whiteboard (world_of past).instances j k) same;
}

-- ---- levels and stages, as numbers

stage_one : (g s : ℕ) → (4 * g + s) % 4 ≡ 1 → s % 4 ≡ 1
stage_one g s is = omega (arith, is)

never_one : (s n : ℕ) → s % 4 ≡ 1 → s ≡ n → n % 4 ≡ 1
never_one s n is same = omega (arith, is, same)

same_generation : (g h level : ℕ) → level ≡ 4 * g + 1 → level + 2 ≡ 4 * h + 3 → g ≡ h
same_generation g h level own closed = omega (arith, own, closed)

shut_level : (g level : ℕ) → level ≡ 4 * g + 1 → level % 4 ≡ 1
shut_level g level is = omega (arith, is)

no_more : (g : ℕ) → 4 * g + 0 ≡ 4 * g
no_more g = omega arith

module _ (w : World) (fit : HasSlots w) where
  level_at : (i : Instance) → Contains w.instances i → slot_level w i.slot ≡ 4 * slice_index w.generations i.slot + gate_stage w i
  level_at i h = ap (λ n. 4 * slice_index w.generations i.slot + n) (at_own 3 (gate_stage w) w.instances fit.apart i h)

  stage_when : (i : Instance) (a e d : Bool) → is_active_instance i ≡ a → ends w i ≡ e → i.drained ≡ d → gate_stage w i ≡ cond a (cond e (cond d 3 1) 0) 3
  stage_when i a e d p q r = ap (λ b. cond b (cond (ends w i) (cond i.drained 3 1) 0) 3) p ∙ ap (λ b. cond a (cond b (cond i.drained 3 1) 0) 3) q ∙ ap (λ b. cond a (cond e (cond b 3 1) 0) 3) r

  level_active : (i : Instance) → Contains w.instances i → is_active_instance i ≡ true → (stage : ℕ) → gate_stage w i ≡ stage → slot_level w i.slot ≡ 4 * i.generation + stage
  level_active i h on stage is = level_at i h ∙ ap (λ g. 4 * g + gate_stage w i) (sym (fit.last i h on)) ∙ ap (λ n. 4 * i.generation + n) is

  -- ---- whose drain is awaited

  pub awaits_shut : (i : Instance) → Contains w.instances i → awaits_drain w i ≡ true → slot_level w i.slot ≡ 4 * i.generation + 1
  awaits_shut i h is =
      let both = and_parts (is_draining w i) (not i.drained) is in
      let draining = and_parts (is_active_instance i) (ends w i) both.0 in
      level_active i h draining.0 1 (stage_when i true true false draining.0 draining.1 (not_true i.drained both.1))

  stage_awaits : (i : Instance) → gate_stage w i % 4 ≡ 1 → awaits_drain w i ≡ true
  stage_awaits i is = go (is_active_instance i) (ends w i) i.drained refl refl refl
    where
      three : 3 % 4 ≡ 1 → ⊥
      three e = omega (arith, e)

      zeroth : 0 % 4 ≡ 1 → ⊥
      zeroth e = omega (arith, e)

      go : (a e d : Bool) → is_active_instance i ≡ a → ends w i ≡ e → i.drained ≡ d → awaits_drain w i ≡ true
      go true true false p q r = and_from (is_draining w i) (not i.drained) (and_from (is_active_instance i) (ends w i) p q) (ap (λ b. not b) r)
      go true true true p q r = absurd (three (never_one (gate_stage w i) 3 is (stage_when i true true true p q r)))
      go true false d p q r = absurd (zeroth (never_one (gate_stage w i) 0 is (stage_when i true false d p q r)))
      go false e d p q r = absurd (three (never_one (gate_stage w i) 3 is (stage_when i false e d p q r)))

  -- the instance whose slot is shut
  pub shut_awaits : (slot : ℕ) → slot_level w slot % 4 ≡ 1 → (i : Instance) × (Contains w.instances i × ((i.slot ≡ slot) × (awaits_drain w i ≡ true)))
  shut_awaits slot is = go (find (λ (i : Instance). i.slot == slot) w.instances) refl
    where
      low : slot_stage w slot % 4 ≡ 1
      low = stage_one (slice_index w.generations slot) (slot_stage w slot) is

      three : 3 % 4 ≡ 1 → ⊥
      three e = omega (arith, e)

      go : (o : Option Instance) → find (λ (i : Instance). i.slot == slot) w.instances ≡ o → (i : Instance) × (Contains w.instances i × ((i.slot ≡ slot) × (awaits_drain w i ≡ true)))
      go None found = absurd (three (never_one (slot_stage w slot) 3 low (ap (λ (o : Option Instance). option_map_or (gate_stage w) o 3) found)))
      go (Some i) found =
          let was = found_was (λ (j : Instance). j.slot == slot) w.instances i found in
          (i, (was.0, (eqb-true i.slot slot was.1, stage_awaits i (never_one (slot_stage w slot) (gate_stage w i) low (ap (λ (o : Option Instance). option_map_or (gate_stage w) o 3) found)))))

  module _ (k : KeeperView) (orderly : IsOrderly k) (gates : HasGates w k) where
    near : (i : Instance) → Contains w.instances i → i.slot < slots_in k.gate
    near i h = subst (λ n. i.slot < n) (sym gates.slots) (fit.within i h)

    -- something is owed exactly where a drain is awaited
    pub owed_is : is_some_key k.shelf ≡ list_any (awaits_drain w) w.instances
    owed_is = go k.shelf refl (list_any (awaits_drain w) w.instances) refl
      where
        go : (shelf : List GateKey) → k.shelf ≡ shelf → (b : Bool) → list_any (awaits_drain w) w.instances ≡ b → is_some_key shelf ≡ b
        go [] is true on =
            let one = any_was (awaits_drain w) w.instances on in
            let level = awaits_shut one.0 one.1.0 one.1.1 in
            let there = shut_is_shelved (slot_level w) k orderly gates.levels gates.none_shut one.0.slot (near one.0 one.1.0) (shut_level one.0.generation (slot_level w one.0.slot) level) in
            sym (ap (λ ks. is_shelved ks one.0.slot) is) ∙ there
        go [] is false off = refl
        go (key ∷ keys) is true on = refl
        go (key ∷ keys) is false off =
            let there = ap (λ ks. is_shelved ks key.slot) is ∙ ap (λ b. b || is_shelved keys key.slot) (eq-eqb key.slot key.slot refl) in
            let who = shut_awaits key.slot (shelved_is_shut (slot_level w) k orderly gates.levels key.slot there).0 in
            sym (any_from (awaits_drain w) w.instances who.0 who.1.0 who.1.1.1) ∙ off

    -- the drain that is taken from the shelf is awaited
    pub drain_awaits : (drain : HeldKey) (after : KeeperView) → Takes drain k after → list_any (awaits_drain_at w drain.key) w.instances ≡ true
    drain_awaits drain after takes =
        let slot = drain.key.slot in
        let there = ap (λ ks. is_shelved ks slot) takes.shelf ∙ ap (λ b. b || is_shelved after.shelf slot) (eq-eqb slot slot refl) in
        let shut = shelved_is_shut (slot_level w) k orderly gates.levels slot there in
        let who = shut_awaits slot shut.0 in
        let i = who.0 in
        let closed = sym shut.1 ∙ ap (λ (x : KeeperView). get_or x.levels slot 0) (sym takes.rest) ∙ takes.can.closed in
        let own = subst (λ s. slot_level w s ≡ 4 * i.generation + 1) who.1.1.0 (awaits_shut i who.1.0 who.1.1.1) in
        let generation = same_generation i.generation drain.key.generation (slot_level w slot) own closed in
        any_from (awaits_drain_at w drain.key) w.instances i who.1.0
        (and_from ((i.slot == slot) && (i.generation == drain.key.generation)) (awaits_drain w i)
        (and_from (i.slot == slot) (i.generation == drain.key.generation) (eq-eqb i.slot slot who.1.1.0) (eq-eqb i.generation drain.key.generation generation)) who.1.1.1)

    -- ---- what the keeper knows

    known : (i : Instance) → Contains w.instances i → KnowsKey (slot_level w) k (gate_of i)
    known i h = knows_key (slot_level w) k orderly gates.levels (gate_of i) (near i h)

    drained_known : (i : Instance) → Contains w.instances i → is_active_instance i ≡ true → i.drained ≡ true → KnownClaimed (gate_of i) k.levels
    drained_known i h on posted = (known i h).closed (level_active i h on 3 (stage_when i true true true on (fit.ending i h on posted) posted))

    opened_known : (i : Instance) → Contains w.instances i → is_active_instance i ≡ true → ends w i ≡ false → get_or k.levels i.slot 0 ≡ 4 * i.generation
    opened_known i h on off = (known i h).opened (level_active i h on 0 (stage_when i true false i.drained on off refl) ∙ no_more i.generation)

    -- a level that is shut or closed is so for the keeper
    kept_shut : (i : Instance) → Contains w.instances i → (slot_level w i.slot % 4 ≡ 1) ⊎ (slot_level w i.slot % 4 ≡ 3) → (get_or k.levels i.slot 0 % 4 ≡ 1) ⊎ (get_or k.levels i.slot 0 % 4 ≡ 3)
    kept_shut i h level = go (is_shelved k.shelf i.slot) refl
      where
        go : (b : Bool) → is_shelved k.shelf i.slot ≡ b → (get_or k.levels i.slot 0 % 4 ≡ 1) ⊎ (get_or k.levels i.slot 0 % 4 ≡ 3)
        go true on = inr (orderly.closed i.slot on)
        go false off = subst (λ n. (n % 4 ≡ 1) ⊎ (n % 4 ≡ 3)) (sym (gates.levels i.slot (near i h) ∙ ap (λ b. level_kept b (slot_level w i.slot)) off)) level

    others_known : (i : Instance) → Contains w.instances i → (is_active_instance i && not (ends w i)) ≡ false → (get_or k.levels i.slot 0 % 4 ≡ 1) ⊎ (get_or k.levels i.slot 0 % 4 ≡ 3)
    others_known i h off = kept_shut i h (go (is_active_instance i) (ends w i) i.drained refl refl refl)
      where
        at_one : (g level : ℕ) → level ≡ 4 * g + 1 → level % 4 ≡ 1
        at_one g level is = omega (arith, is)

        at_three : (g level : ℕ) → level ≡ 4 * g + 3 → level % 4 ≡ 3
        at_three g level is = omega (arith, is)

        level_with : (stage : ℕ) → gate_stage w i ≡ stage → slot_level w i.slot ≡ 4 * slice_index w.generations i.slot + stage
        level_with stage is = level_at i h ∙ ap (λ n. 4 * slice_index w.generations i.slot + n) is

        go : (a e d : Bool) → is_active_instance i ≡ a → ends w i ≡ e → i.drained ≡ d → (slot_level w i.slot % 4 ≡ 1) ⊎ (slot_level w i.slot % 4 ≡ 3)
        go true true true p q r = inr (at_three (slice_index w.generations i.slot) (slot_level w i.slot) (level_with 3 (stage_when i true true true p q r)))
        go true true false p q r = inl (at_one (slice_index w.generations i.slot) (slot_level w i.slot) (level_with 1 (stage_when i true true false p q r)))
        go true false d p q r = absurd (both_ways (is_active_instance i && not (ends w i)) off (and_from (is_active_instance i) (not (ends w i)) p (ap (λ b. not b) q)))
        go false e d p q r = inr (at_three (slice_index w.generations i.slot) (slot_level w i.slot) (level_with 3 (stage_when i false e d p q r)))

    posted_known : (i : Instance) → Contains w.instances i → is_active_instance i ≡ true → KnownClaimed (gate_of i) k.levels → (i.drained ≡ true) ⊎ (is_shelved k.shelf i.slot ≡ true)
    posted_known i h on claimed = elim ((known i h).posted claimed) [
      | inl high ↦ inl (go high (ends w i) i.drained refl refl)
      | inr shelf ↦ inr shelf.1
    ]
      where
        not_open : (g level : ℕ) → 4 * g + 3 ≤ level → level ≡ 4 * g + 0 → ⊥
        not_open g level high is = omega (arith, high, is)

        not_shut : (g level : ℕ) → 4 * g + 3 ≤ level → level ≡ 4 * g + 1 → ⊥
        not_shut g level high is = omega (arith, high, is)

        go : 4 * i.generation + 3 ≤ slot_level w i.slot → (e d : Bool) → ends w i ≡ e → i.drained ≡ d → i.drained ≡ true
        go high e true q r = r
        go high true false q r = absurd (not_shut i.generation (slot_level w i.slot) high (level_active i h on 1 (stage_when i true true false on q r)))
        go high false false q r = absurd (not_open i.generation (slot_level w i.slot) high (level_active i h on 0 (stage_when i true false false on q r)))

    pub knows_gates : KnowsGates w k
    knows_gates = record { drained = drained_known; opened = opened_known; others = others_known; posted = posted_known }
