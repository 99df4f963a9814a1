-- An active instance has the last generation of its slot.
use Rattle.std.proofs.Common.{◌≡◌, ℕ, List, [], ◌∷◌, ◌++◌, length, ap, sym, ◌∙◌, refl, subst, cond, Bool, true, false, ◌&&◌, inl, inr, Option, Some, None}
use Rattle.std.specs.Prelude.{find, is_none, map, slice_set, ◌==◌}
use Rattle.std.specs.List.{Contains}
use Rattle.std.proofs.lemmas.Bool.{and_from, and_parts, both_ways, cases_Bool, eqb-true}
use Rattle.std.proofs.lemmas.List.{get_or-set_other, get_or-set_same}
use Rattle.std.proofs.lemmas.List.FromFn.{length-range_with_len}
use Rattle.callback_orders.specs.declared.callback.Callback.{Callback}
use Rattle.callback_orders.specs.declared.callback.Callback.TheVariants.{Create, Bind, Updated, Unbind, Activate, Modified, Deactivate, Destroy}
use Rattle.callback_orders.specs.declared.callback.Outcome.{Outcome}
use Rattle.callback_orders.specs.declared.instance_view.Phase.{Phase}
use Rattle.callback_orders.specs.declared.instance_view.Phase.TheVariants.{Making, Active, Left}
use Rattle.callback_orders.specs.declared.word.Called.{Called}
use Rattle.callback_orders.specs.Grammar.{is_activate, is_create}
use Rattle.callback_orders.specs.Lives.{phase_after, phase_by}
use Rattle.callback_orders.specs.Sequences.{begun, ended, is_done, is_outstanding}
use Rattle.component_state.specs.declared.origin.Choice.{Choice}
use Rattle.component_state.proofs.Apart.{in_either, in_none, kept_was, one_of}
use Rattle.scr_laws.specs.Gates.{HaveLastGenerations}
use Rattle.scr_laws.proofs.LivingLaws.{AreTold, legal_told}
use Rattle.scr_laws.proofs.NothingShut.{drained_drains, told_drains}
use Rattle.scr_laws.proofs.Listed.{mapped_was, none_found, single}
use Rattle.scr_laws.specs.Slots.{HaveOwnSlots}
use Rattle.scr_laws.proofs.GateKeyLaws.{HaveRoom, count_of, counted_in, counts_kept, reopened_first, reopened_is, reopens, room_in}
use Rattle.scr_laws.proofs.InstanceLemmas.{begun_cases, found_was}
use Rattle.scr_laws.proofs.SlotLaws.{slots_differ_in}
use Rattle.scr_world.specs.Instances.{BeforeTurn, becomes_active, begun_by, created_at, drained_in, ended_in, first_free_slot, has_turn, is_active_instance, is_active_phase, last_is, lives_on, next_generation, with_callback_begun, with_effect_of_begin, with_outcome}
use Rattle.scr_world.specs.Legal.{IsLegal}
use Rattle.scr_world.specs.Lists.{world_after_entry, world_of}
use Rattle.scr_world.specs.Steps.{History}
use Rattle.scr_world.specs.Stepping.{before_turn, generations_by, instances_by, instances_told, with_room_for, world_after_step}
use Rattle.scr_world.specs.declared.instance.Instance.{Instance}
use Rattle.scr_world.specs.declared.step.Step.{Step}
use Rattle.scr_world.specs.declared.step.Step.TheVariants.{Command as Commanded, Begin, End, Drained, Got, Released}
use Rattle.scr_world.specs.declared.world.World.{World}

-- ---- by the end of a turn an instance stays active, or becomes so

-- an end of a callback other than a successful Activate makes nobody active
ends_one : (callback : Callback) (was : Option Outcome) (outcome : Outcome) (phase : Phase) → is_none was ≡ true → is_active_phase (phase_by callback (Some outcome) phase) ≡ true → (is_done (Some outcome) && is_activate callback) ≡ false
    → is_active_phase (phase_by callback was phase) ≡ true
ends_one callback (Some o) outcome phase running on denied = cc
ends_one Create None outcome phase running on denied = on
ends_one (Bind reference service) None outcome phase running on denied = on
ends_one (Updated reference service) None outcome phase running on denied = on
ends_one (Unbind reference service) None outcome phase running on denied = on
ends_one Activate None outcome phase running on denied = go (is_done (Some outcome)) on denied
  where
    go : (b : Bool) → is_active_phase (cond b Active Left) ≡ true → (b && true) ≡ false → is_active_phase phase ≡ true
    go true h k = absurd cc
    go false h k = absurd cc
ends_one Modified None outcome phase running on denied = on
ends_one Deactivate None outcome phase running on denied = absurd cc
ends_one Destroy None outcome phase running on denied = on

stays_active : (calls : List Called) (outcome : Outcome) (phase : Phase) → is_outstanding calls ≡ true → is_active_phase (phase_after phase (ended outcome calls)) ≡ true → (is_done (Some outcome) && last_is is_activate calls) ≡ false
    → is_active_phase (phase_after phase calls) ≡ true
stays_active [] outcome phase running on denied = on
stays_active (c ∷ []) outcome phase running on denied = ends_one c.callback c.outcome outcome phase running on denied
stays_active (c ∷ d ∷ rest) outcome phase running on denied = stays_active (d ∷ rest) outcome (phase_by c.callback c.outcome phase) running on denied

-- ---- each step leaves active instances with the last generation

abbrev AreLast : List Instance → List ℕ → Type 0
AreLast is generations = (i : Instance) → Contains is i → is_active_instance i ≡ true → i.generation ≡ count_of generations i.slot

module _ (w : World) (each : AreLast w.instances w.generations) where
  -- a function that leaves phase, generation and slot
  mapped_last : (f : Instance → Instance) → ((i : Instance) → is_active_instance (f i) ≡ is_active_instance i) → ((i : Instance) → (f i).generation ≡ i.generation) → ((i : Instance) → (f i).slot ≡ i.slot) → AreLast (map f w.instances) w.generations
  mapped_last f active generation slot i h on =
      let was = mapped_was f w.instances i h in
      subst (λ (x : Instance). x.generation ≡ count_of w.generations x.slot) was.1.1
      (generation was.0 ∙ each was.0 was.1.0 (sym (active was.0) ∙ ap is_active_instance was.1.1 ∙ on) ∙ ap (count_of w.generations) (sym (slot was.0)))

  taken_generation : (m : BeforeTurn) (callback : Callback) (i : Instance) → (with_effect_of_begin m callback i).generation ≡ i.generation
  taken_generation m Create i = refl
  taken_generation m (Bind reference service) i = refl
  taken_generation m (Updated reference service) i = refl
  taken_generation m (Unbind reference service) i = refl
  taken_generation m Activate i = refl
  taken_generation m Modified i = refl
  taken_generation m Deactivate i = refl
  taken_generation m Destroy i = refl

  told_generation : (turn instance : ℕ) (callback : Callback) (i : Instance) → (with_callback_begun (before_turn w) turn instance callback i).generation ≡ i.generation
  told_generation turn instance callback i = go (i.number == instance)
    where
      go : (b : Bool) → (cond b (with_effect_of_begin (before_turn w) callback (record i { turn = turn; callbacks = i.callbacks ++ begun callback ∷ [] })) i).generation ≡ i.generation
      go true = taken_generation (before_turn w) callback (record i { turn = turn; callbacks = i.callbacks ++ begun callback ∷ [] })
      go false = refl

  begun_last : (turn instance configuration consumer : ℕ) (callback : Callback) (chosen : List Choice) → AreLast (begun_by (before_turn w) turn instance configuration consumer callback chosen) w.generations
  begun_last turn instance configuration consumer callback chosen = elim (begun_cases callback) [
    | inl create ↦ subst (λ (c : Callback). AreLast (begun_by (before_turn w) turn instance configuration consumer c chosen) w.generations) (sym create)
        (λ i h on. elim (in_either w.instances (created_at (before_turn w) turn instance configuration consumer chosen ∷ []) i h) [
          | inl old ↦ each i old on
          | inr added ↦ absurd (both_ways (is_active_instance i) (ap is_active_instance (sym (single (created_at (before_turn w) turn instance configuration consumer chosen) i added))) on)
        ])
    | inr tells ↦ subst (λ (is : List Instance). AreLast is w.generations) (sym (tells (before_turn w) turn instance configuration consumer chosen))
        (mapped_last (with_callback_begun (before_turn w) turn instance callback) (λ i. (told_drains (before_turn w) turn instance callback i).active) (told_generation turn instance callback) (λ i. (told_drains (before_turn w) turn instance callback i).same.slot))
  ]

  with_room : (b : Bool) (slot : ℕ) (is : List Instance) → AreLast is w.generations → AreLast is (cond b (with_room_for slot w.generations) w.generations)
  with_room true slot is last i h on = last i h on ∙ sym (counts_kept slot w.generations i.slot)
  with_room false slot is last i h on = last i h on

  drained_generation : (instance : ℕ) (i : Instance) → (drained_in instance i).generation ≡ i.generation
  drained_generation instance i = go (i.number == instance)
    where
      go : (b : Bool) → (cond b (record i { drained = true }) i).generation ≡ i.generation
      go true = refl
      go false = refl

  module _ (slots : HaveOwnSlots w.instances) (told : AreTold w.instances w.instances_numbered w.turns_begun) (room : HaveRoom w.instances w.generations) (turn : ℕ) (outcome : Outcome) where
    abbrev becomes : Instance → Bool
    becomes i = becomes_active outcome i

    -- the one instance whose turn ends
    outcome_last : (i : Instance) → Contains w.instances i → has_turn turn i ≡ true → (found : Option Instance) → find (reopens turn outcome) w.instances ≡ found → is_active_instance (with_outcome outcome w.generations i) ≡ true
        → (with_outcome outcome w.generations i).generation ≡ count_of (reopened_first found w.generations) i.slot
    outcome_last i h mine None none on = ap (λ b. cond b (next_generation w.generations i) i.generation) off ∙ each i h (stays_active i.callbacks outcome Making (and_parts (i.turn == turn) (is_outstanding i.callbacks) mine).1 on off)
      where
        off : becomes_active outcome i ≡ false
        off = elim (cases_Bool (becomes_active outcome i)) [
          | inl does ↦ absurd (both_ways (reopens turn outcome i) (none_found (reopens turn outcome) w.instances i none h) (and_from (has_turn turn i) (becomes_active outcome i) mine does))
          | inr denied ↦ denied
        ]
    outcome_last i h mine (Some k) is on =
        let found = found_was (reopens turn outcome) w.instances k is in
        let both = and_parts (has_turn turn k) (becomes_active outcome k) found.1 in
        let same = one_of (λ (x : Instance). x.turn) w.instances told.turns i k h found.0
        (eqb-true i.turn turn (and_parts (i.turn == turn) (is_outstanding i.callbacks) mine).0 ∙ sym (eqb-true k.turn turn (and_parts (k.turn == turn) (is_outstanding k.callbacks) both.0).0)) in
        ap (λ b. cond b (next_generation w.generations i) i.generation) (ap (becomes_active outcome) same ∙ both.1)
        ∙ ap (next_generation w.generations) same
        ∙ sym (ap (λ (x : Instance). count_of (slice_set w.generations k.slot (next_generation w.generations k)) x.slot) same ∙ get_or-set_same w.generations k.slot (next_generation w.generations k) 0 (room k found.0))

    -- the others
    others_last : (i : Instance) → Contains w.instances i → has_turn turn i ≡ false → (found : Option Instance) → find (reopens turn outcome) w.instances ≡ found → is_active_instance i ≡ true → i.generation ≡ count_of (reopened_first found w.generations) i.slot
    others_last i h other None none on = each i h on
    others_last i h other (Some k) is on =
        let found = found_was (reopens turn outcome) w.instances k is in
        let both = and_parts (has_turn turn k) (becomes_active outcome k) found.1 in
        each i h on ∙ sym (get_or-set_other w.generations k.slot i.slot (next_generation w.generations k) 0
        (λ e. both_ways (has_turn turn i) other (ap (has_turn turn) (one_of (λ (x : Instance). x.slot) w.instances slots i k h found.0 e) ∙ both.0)))

    ended_last : (i : Instance) → Contains w.instances i → (b : Bool) → has_turn turn i ≡ b → is_active_instance (cond b (with_outcome outcome w.generations i) i) ≡ true
        → (cond b (with_outcome outcome w.generations i) i).generation ≡ count_of (reopened_first (find (reopens turn outcome) w.instances) w.generations) (cond b (with_outcome outcome w.generations i) i).slot
    ended_last i h true mine on = outcome_last i h mine (find (reopens turn outcome) w.instances) refl on
    ended_last i h false other on = others_last i h other (find (reopens turn outcome) w.instances) refl on

    end_last : AreLast (instances_by (End turn outcome) w) (generations_by (End turn outcome) w)
    end_last i h on =
        let was = mapped_was (ended_in turn outcome w.generations) w.instances i (kept_was lives_on (instances_told (End turn outcome) w) i h).0 in
        subst (λ (x : Instance). x.generation ≡ count_of (reopened_first (find (reopens turn outcome) w.instances) w.generations) x.slot) was.1.1
        (ended_last was.0 was.1.0 (has_turn turn was.0) refl (ap is_active_instance was.1.1 ∙ on))
        ∙ ap (λ (gs : List ℕ). count_of gs i.slot) (sym (reopened_is (reopens turn outcome) w.instances w.generations))

  last_after : HaveOwnSlots w.instances → AreTold w.instances w.instances_numbered w.turns_begun → HaveRoom w.instances w.generations → (step : Step) → AreLast (instances_by step w) (generations_by step w)
  last_after slots told room (Commanded command) = each
  last_after slots told room (Begin turn instance configuration consumer callback chosen) = with_room (is_create callback) (first_free_slot w.instances) (begun_by (before_turn w) turn instance configuration consumer callback chosen) (begun_last turn instance configuration consumer callback chosen)
  last_after slots told room (End turn outcome) = end_last slots told room turn outcome
  last_after slots told room (Drained instance) = mapped_last (drained_in instance) (λ i. (drained_drains instance i).active) (drained_generation instance) (λ i. (drained_drains instance i).same.slot)
  last_after slots told room (Got bundle service) = each
  last_after slots told room (Released place) = each

last_in : (limit : ℕ) (past : History) → IsLegal limit past → AreLast (world_of past).instances (world_of past).generations
unfolding world_of world_after_entry world_after_step
last_in limit [] legal i h on = absurd (in_none i h)
last_in limit (entry ∷ past) legal i h on = last_after (world_of past) (last_in limit past legal.1) (slots_differ_in past) (legal_told limit past legal.1) (room_in past) entry.step i h on

pub last_generations : (limit : ℕ) (journal : History) → IsLegal limit journal → HaveLastGenerations journal
last_generations limit journal legal i h on =
    last_in limit journal legal i h on ∙ sym (ap length (counted_in journal i.slot) ∙ length-range_with_len 1 (count_of (world_of journal).generations i.slot))
