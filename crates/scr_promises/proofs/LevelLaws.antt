-- What an entry that follows makes of the level of each slot.
use Rattle.std.proofs.Common.{◌≡◌, ℕ, ◌+◌, List, [], ◌∷◌, length, ap, sym, ◌∙◌, refl, subst, cond, arith, Bool, true, false, ◌&&◌, inl, inr, ◌⊎◌, Option, Some, None}
use Rattle.std.specs.Prelude.{filter, find, map, not, option_map, slice_index, slice_set, ◌*◌, ◌==◌}
use Rattle.std.specs.List.{Contains, list_any}
use Rattle.std.specs.Option.{option_map_or}
use Rattle.std.proofs.lemmas.Bool.{and_from, and_parts, both_ways, cases_Bool, eq-eqb, eqb-true}
use Rattle.std.proofs.lemmas.List.{get_or-set_other, get_or-set_same}
use Rattle.std.proofs.lemmas.List.FromFn.{length-range_with_len}
use Rattle.callback_orders.specs.declared.callback.Callback.{Callback}
use Rattle.callback_orders.specs.declared.callback.Callback.TheVariants.{Create, Bind, Updated, Unbind, Activate, Modified, Deactivate, Destroy}
use Rattle.callback_orders.specs.declared.callback.Outcome.{Outcome}
use Rattle.callback_orders.specs.Grammar.{is_create}
use Rattle.callback_orders.specs.Sequences.{is_outstanding}
use Rattle.component_state.specs.Inside.Ready.{are_apart}
use Rattle.component_state.proofs.Apart.{in_either, in_left, in_none, kept_from, kept_was, not_true, one_of}
use Rattle.journal_core.specs.declared.entry.Entry.{Entry}
use Rattle.journal_core.specs.declared.entry.GateKey.{GateKey}
use Rattle.scr_promises.proofs.EndingLaws.{end_in_time, go_on_ending}
use Rattle.scr_laws.proofs.DrainOrder.{legal_drains}
use Rattle.scr_laws.proofs.LegalOrder.{legal_ordered}
use Rattle.scr_laws.proofs.Reserved.{any_of_one}
use Rattle.scr_laws.proofs.LastGenerations.{last_generations}
use Rattle.scr_laws.proofs.LivingLaws.{AreTold, legal_told}
use Rattle.scr_laws.proofs.Ordered.{AreOrdered}
use Rattle.scr_laws.proofs.Listed.{found_was}
use Rattle.scr_laws.proofs.GateKeyLaws.{count_of, counted_in, counts_kept, reopened_first, reopened_is, reopens, room_in}
use Rattle.scr_laws.proofs.InstanceLemmas.{IsSame, alone, drained_same, ended_same, mapped_alike, mapped_in, mapped_was, told_same}
use Rattle.scr_laws.proofs.SlotLaws.{slots_differ_in}
use Rattle.scr_world.specs.Consequences.{begins_draining, gate_of, is_draining, shut_between}
use Rattle.scr_world.specs.Instances.{created_at, drained_in, ended_in, first_free_slot, has_turn, is_active_instance, lives_on, next_generation, with_callback_begun}
use Rattle.scr_world.specs.Legal.{IsLegal, MayCome}
use Rattle.scr_world.specs.Lists.{world_after_entry, world_of}
use Rattle.scr_world.specs.Steps.{History}
use Rattle.scr_world.specs.Stepping.{before_turn, generations_by, instances_by, instances_told, with_room_for, world_after_step}
use Rattle.scr_world.specs.Views.{ends}
use Rattle.scr_world.specs.declared.instance.Instance.{Instance}
use Rattle.scr_world.specs.declared.step.Step.{Step}
use Rattle.scr_world.specs.declared.step.Step.TheVariants.{Command as Commanded, Begin, End, Drained, Got, Released}
use Rattle.scr_world.specs.declared.world.World.{World}
use Rattle.scr_promises.specs.Levels.{MovesLevels, gate_stage, is_drained_in, level_drained, level_reopened, level_shut, reopened_in, slot_level, slot_stage}
use Rattle.scr_promises.proofs.AtSlots.{among_gates, any_at, at_kept, at_mapped, at_nothing, at_own, at_pushed, at_slot, first_at, slot_in}
use Rattle.scr_promises.proofs.GateMoves.{IsMove, drains, leaves, opens, stays, ceased_inactive, is_opened, is_posted, move_by, moved}
use Rattle.scr_promises.proofs.LevelCounts.{moves_drains, moves_leaves, moves_opens, moves_stays}

-- ---- it is the same instance

either_same : (b : Bool) (i j : Instance) → IsSame j i → IsSame (cond b i j) i
either_same true i j same = record { number = refl; slot = refl; consumer = refl; service = refl; origin = refl }
either_same false i j same = same

moved_same : (step : Step) (w : World) (i : Instance) → IsSame (moved step w i) i
moved_same (Commanded command) w i = record { number = refl; slot = refl; consumer = refl; service = refl; origin = refl }
moved_same (Begin turn instance configuration consumer callback chosen) w i = either_same (is_create callback) i (with_callback_begun (before_turn w) turn instance callback i) (told_same (before_turn w) turn instance callback i)
moved_same (End turn outcome) w i = ended_same turn outcome w.generations i
moved_same (Drained instance) w i = drained_same instance i
moved_same (Got bundle service) w i = record { number = refl; slot = refl; consumer = refl; service = refl; origin = refl }
moved_same (Released place) w i = record { number = refl; slot = refl; consumer = refl; service = refl; origin = refl }

-- an active instance has the last generation of its slot
pub last_generation : (limit : ℕ) (past : History) → IsLegal limit past → (i : Instance) → Contains (world_of past).instances i → is_active_instance i ≡ true → i.generation ≡ slice_index (world_of past).generations i.slot
last_generation limit past legal i h on = last_generations limit past legal i h on ∙ ap length (counted_in past i.slot) ∙ length-range_with_len 1 (count_of (world_of past).generations i.slot)

module _ (limit : ℕ) (entry : Entry Step) (past : History) (legal : IsLegal limit (entry ∷ past)) where
  abbrev w : World
  w = world_of past

  abbrev now : World
  now = world_of (entry ∷ past)

  told : AreTold (world_of past).instances (world_of past).instances_numbered (world_of past).turns_begun
  told = legal_told limit past legal.1

  apart : are_apart (map slot_in (world_of past).instances) ≡ true
  apart = slots_differ_in past

  instances_then : (world_of (entry ∷ past)).instances ≡ instances_by entry.step (world_of past)
  unfolding world_of world_after_entry world_after_step
  instances_then = refl

  generations_then : (world_of (entry ∷ past)).generations ≡ generations_by entry.step (world_of past)
  unfolding world_of world_after_entry world_after_step
  generations_then = refl

  module _ (may : MayCome (world_of past) entry.step) where
    move : (i : Instance) → Contains (world_of past).instances i → IsMove (is_opened entry.step i) (is_posted entry.step i) (world_of past) i (moved entry.step (world_of past) i)
    move i h = move_by w told (λ k there. (ordered.each k there).order) ordered.living (legal_drains limit past legal.1) (end_in_time limit past legal.1).deactivated entry.step may i h
      where
        ordered : AreOrdered (world_of past)
        ordered = legal_ordered limit past legal.1

    gone : (turn : ℕ) (outcome : Outcome) (i : Instance) → Contains (world_of past).instances i → lives_on (ended_in turn outcome (world_of past).generations i) ≡ false → is_active_instance (ended_in turn outcome (world_of past).generations i) ≡ false
    gone turn outcome i h off =
        let ordered = legal_ordered limit past legal.1 in
        ceased_inactive w told (λ k there. (ordered.each k there).order) ordered.living (legal_drains limit past legal.1) (end_in_time limit past legal.1).deactivated turn outcome i h off

    -- ---- what is said of the instances afterwards

    module _ {Y : Type 0} (none : Y) (f : Instance → Y) (silent : (i : Instance) → is_active_instance i ≡ false → f i ≡ none) (slot : ℕ) where
      told_at : (turn instance : ℕ) (callback : Callback) → at_slot none f (map (with_callback_begun (before_turn w) turn instance callback) w.instances) slot ≡ at_slot none (λ i. f (with_callback_begun (before_turn w) turn instance callback i)) w.instances slot
      told_at turn instance callback = at_mapped none f slot (with_callback_begun (before_turn w) turn instance callback) (λ i. (told_same (before_turn w) turn instance callback i).slot) w.instances

      at_step : (step : Step) → at_slot none f (instances_by step w) slot ≡ at_slot none (λ i. f (moved step w i)) w.instances slot
      at_step (Commanded command) = refl
      at_step (Begin turn instance configuration consumer Create chosen) =
          at_pushed none f slot (created_at (before_turn w) turn instance configuration consumer chosen) (silent (created_at (before_turn w) turn instance configuration consumer chosen) refl) w.instances
      at_step (Begin turn instance configuration consumer (Bind reference service) chosen) = told_at turn instance (Bind reference service)
      at_step (Begin turn instance configuration consumer (Updated reference service) chosen) = told_at turn instance (Updated reference service)
      at_step (Begin turn instance configuration consumer (Unbind reference service) chosen) = told_at turn instance (Unbind reference service)
      at_step (Begin turn instance configuration consumer Activate chosen) = told_at turn instance Activate
      at_step (Begin turn instance configuration consumer Modified chosen) = told_at turn instance Modified
      at_step (Begin turn instance configuration consumer Deactivate chosen) = told_at turn instance Deactivate
      at_step (Begin turn instance configuration consumer Destroy chosen) = told_at turn instance Destroy
      at_step (End turn outcome) =
          at_kept none f slot lives_on (map (ended_in turn outcome w.generations) w.instances) (ap are_apart (mapped_alike slot_in (ended_in turn outcome w.generations) (λ i. (ended_same turn outcome w.generations i).slot) w.instances) ∙ apart)
          (λ j h off. let was = mapped_was (ended_in turn outcome w.generations) w.instances j h in
          silent j (subst (λ (x : Instance). lives_on x ≡ false → is_active_instance x ≡ false) was.2 (gone turn outcome was.0 was.1) off))
          ∙ at_mapped none f slot (ended_in turn outcome w.generations) (λ i. (ended_same turn outcome w.generations i).slot) w.instances
      at_step (Drained instance) = at_mapped none f slot (drained_in instance) (λ i. (drained_same instance i).slot) w.instances
      at_step (Got bundle service) = refl
      at_step (Released place) = refl

      at_now : at_slot none f (world_of (entry ∷ past)).instances slot ≡ at_slot none (λ i. f (moved entry.step (world_of past) i)) (world_of past).instances slot
      at_now = ap (λ (is : List Instance). at_slot none f is slot) instances_then ∙ at_step entry.step

    -- ---- who is active afterwards is there

    there_by : (step : Step) (i : Instance) → Contains w.instances i → is_active_instance (moved step w i) ≡ true → Contains (instances_by step w) (moved step w i)
    there_by (Commanded command) i h on = h
    there_by (Begin turn instance configuration consumer Create chosen) i h on = in_left w.instances (created_at (before_turn w) turn instance configuration consumer chosen ∷ []) i h
    there_by (Begin turn instance configuration consumer (Bind reference service) chosen) i h on = mapped_in (with_callback_begun (before_turn w) turn instance (Bind reference service)) w.instances i h
    there_by (Begin turn instance configuration consumer (Updated reference service) chosen) i h on = mapped_in (with_callback_begun (before_turn w) turn instance (Updated reference service)) w.instances i h
    there_by (Begin turn instance configuration consumer (Unbind reference service) chosen) i h on = mapped_in (with_callback_begun (before_turn w) turn instance (Unbind reference service)) w.instances i h
    there_by (Begin turn instance configuration consumer Activate chosen) i h on = mapped_in (with_callback_begun (before_turn w) turn instance Activate) w.instances i h
    there_by (Begin turn instance configuration consumer Modified chosen) i h on = mapped_in (with_callback_begun (before_turn w) turn instance Modified) w.instances i h
    there_by (Begin turn instance configuration consumer Deactivate chosen) i h on = mapped_in (with_callback_begun (before_turn w) turn instance Deactivate) w.instances i h
    there_by (Begin turn instance configuration consumer Destroy chosen) i h on = mapped_in (with_callback_begun (before_turn w) turn instance Destroy) w.instances i h
    there_by (End turn outcome) i h on =
        kept_from lives_on (map (ended_in turn outcome w.generations) w.instances) (ended_in turn outcome w.generations i) (mapped_in (ended_in turn outcome w.generations) w.instances i h) (lives (cases_Bool (lives_on (ended_in turn outcome w.generations i))))
      where
        lives : (lives_on (ended_in turn outcome w.generations i) ≡ true) ⊎ (lives_on (ended_in turn outcome w.generations i) ≡ false) → lives_on (ended_in turn outcome w.generations i) ≡ true
        lives (inl does) = does
        lives (inr ceases) = absurd (both_ways (is_active_instance (ended_in turn outcome w.generations i)) (gone turn outcome i h ceases) on)
    there_by (Drained instance) i h on = mapped_in (drained_in instance) w.instances i h
    there_by (Got bundle service) i h on = h
    there_by (Released place) i h on = h

    goes_on : (i : Instance) → Contains (world_of past).instances i → is_active_instance (moved entry.step (world_of past) i) ≡ true → ends (world_of past) i ≡ true → ends (world_of (entry ∷ past)) (moved entry.step (world_of past) i) ≡ true
    goes_on i h on ending =
        (go_on_ending limit entry past legal).ending i (moved entry.step w i) h (subst (λ (is : List Instance). Contains is (moved entry.step w i)) (sym instances_then) (there_by entry.step i h on)) (sym (moved_same entry.step w i).number) ending

    begins_is : (i : Instance) → Contains (world_of past).instances i → begins_draining (world_of past) (world_of (entry ∷ past)) (moved entry.step (world_of past) i) ≡ (is_draining (world_of (entry ∷ past)) (moved entry.step (world_of past) i) && not (is_draining (world_of past) i))
    begins_is i h =
        let number = (moved_same entry.step w i).number in
        ap (λ b. is_draining now (moved entry.step w i) && not b)
        (any_of_one (λ (k : Instance). k.number == (moved entry.step w i).number) (is_draining w) w.instances i h (eq-eqb i.number (moved entry.step w i).number (sym number))
        (λ k there same. one_of (λ (x : Instance). x.number) w.instances told.numbers k i there h (eqb-true k.number (moved entry.step w i).number same ∙ number)))

    -- ---- the generations

    module _ (slot : ℕ) where
      abbrev count : ℕ
      count = slice_index w.generations slot

      one_turn : (turn : ℕ) (outcome : Outcome) (i j : Instance) → Contains w.instances i → Contains w.instances j → reopens turn outcome i ≡ true → reopens turn outcome j ≡ true → i ≡ j
      one_turn turn outcome i j h k on also =
          let first = (and_parts (i.turn == turn) (is_outstanding i.callbacks) (and_parts (has_turn turn i) _ on).0).0 in
          let second = (and_parts (j.turn == turn) (is_outstanding j.callbacks) (and_parts (has_turn turn j) _ also).0).0 in
          one_of (λ (x : Instance). x.turn) w.instances told.turns i j h k (eqb-true i.turn turn first ∙ sym (eqb-true j.turn turn second))

      set_at : (k : Instance) → Contains w.instances k → count_of (slice_set w.generations k.slot (next_generation w.generations k)) slot ≡ cond (k.slot == slot) (next_generation w.generations k) count
      set_at k h = go (k.slot == slot) refl
        where
          go : (b : Bool) → (k.slot == slot) ≡ b → count_of (slice_set w.generations k.slot (next_generation w.generations k)) slot ≡ cond b (next_generation w.generations k) count
          go true its = ap (count_of (slice_set w.generations k.slot (next_generation w.generations k))) (sym (eqb-true k.slot slot its)) ∙ get_or-set_same w.generations k.slot (next_generation w.generations k) 0 (room_in past k h)
          go false other = get_or-set_other w.generations k.slot slot (next_generation w.generations k) 0 (λ e. both_ways (k.slot == slot) other (eq-eqb k.slot slot (sym e)))

      reopened_at : (turn : ℕ) (outcome : Outcome) → count_of (reopened_first (find (reopens turn outcome) w.instances) w.generations) slot ≡ option_map_or (λ (k : Instance). cond (k.slot == slot) (next_generation w.generations k) count) (find (reopens turn outcome) w.instances) count
      reopened_at turn outcome = go (find (reopens turn outcome) w.instances) refl
        where
          go : (o : Option Instance) → find (reopens turn outcome) w.instances ≡ o → count_of (reopened_first o w.generations) slot ≡ option_map_or (λ (k : Instance). cond (k.slot == slot) (next_generation w.generations k) count) o count
          go None is = refl
          go (Some k) is = set_at k (found_was (reopens turn outcome) w.instances k is).0

      count_by : (step : Step) → count_of (generations_by step w) slot ≡ at_slot count (λ i. cond (is_opened step i) (next_generation w.generations i) count) w.instances slot
      count_by (Commanded command) = at_nothing count w.instances slot
      count_by (Begin turn instance configuration consumer callback chosen) = go (is_create callback) ∙ at_nothing count w.instances slot
        where
          go : (b : Bool) → count_of (cond b (with_room_for (first_free_slot w.instances) w.generations) w.generations) slot ≡ count
          go true = counts_kept (first_free_slot w.instances) w.generations slot
          go false = refl
      count_by (End turn outcome) =
          ap (λ (gs : List ℕ). count_of gs slot) (reopened_is (reopens turn outcome) w.instances w.generations) ∙ reopened_at turn outcome
          ∙ first_at count (next_generation w.generations) (reopens turn outcome) slot w.instances apart (one_turn turn outcome)
      count_by (Drained instance) = at_nothing count w.instances slot
      count_by (Got bundle service) = at_nothing count w.instances slot
      count_by (Released place) = at_nothing count w.instances slot

      count_then : slice_index (world_of (entry ∷ past)).generations slot ≡ at_slot (slice_index (world_of past).generations slot) (λ i. cond (is_opened entry.step i) (next_generation (world_of past).generations i) (slice_index (world_of past).generations slot)) (world_of past).instances slot
      count_then = ap (λ (gs : List ℕ). count_of gs slot) generations_then ∙ count_by entry.step

      -- ---- the levels

      reopened_level : (step : Step) (level : ℕ) → level_reopened (reopened_in step w) slot level ≡ at_slot level (λ i. cond (is_opened step i) (4 * next_generation w.generations i) level) w.instances slot
      reopened_level (Commanded command) level = at_nothing level w.instances slot
      reopened_level (Begin turn instance configuration consumer callback chosen) level = at_nothing level w.instances slot
      reopened_level (End turn outcome) level =
          go (find (reopens turn outcome) w.instances) ∙ first_at level (λ (i : Instance). 4 * next_generation w.generations i) (reopens turn outcome) slot w.instances apart (one_turn turn outcome)
        where
          go : (o : Option Instance) → level_reopened (option_map (λ (i : Instance). record { slot = i.slot; generation = next_generation w.generations i }) o) slot level ≡ option_map_or (λ (k : Instance). cond (k.slot == slot) (4 * next_generation w.generations k) level) o level
          go None = refl
          go (Some k) = refl
      reopened_level (Drained instance) level = at_nothing level w.instances slot
      reopened_level (Got bundle service) level = at_nothing level w.instances slot
      reopened_level (Released place) level = at_nothing level w.instances slot

      posted_at : (step : Step) → is_drained_in step w slot ≡ at_slot false (is_posted step) w.instances slot
      posted_at (Commanded command) = at_nothing false w.instances slot
      posted_at (Begin turn instance configuration consumer callback chosen) = at_nothing false w.instances slot
      posted_at (End turn outcome) = at_nothing false w.instances slot
      posted_at (Drained instance) = any_at (λ (i : Instance). i.number == instance) slot w.instances apart
      posted_at (Got bundle service) = at_nothing false w.instances slot
      posted_at (Released place) = at_nothing false w.instances slot

      abbrev begins : Instance → Bool
      begins i = begins_draining w now (moved entry.step w i)

      shut_at : list_any (λ (key : GateKey). key.slot == slot) (shut_between (world_of past) (world_of (entry ∷ past))) ≡ at_slot false (λ i. begins_draining (world_of past) (world_of (entry ∷ past)) (moved entry.step (world_of past) i)) (world_of past).instances slot
      unfolding shut_between
      shut_at =
          among_gates (begins_draining w now) slot (world_of (entry ∷ past)).instances (slots_differ_in (entry ∷ past))
          ∙ at_now false (begins_draining w now) (λ i off. ap (λ b. (b && ends now i) && not (list_any (λ (j : Instance). (j.number == i.number) && is_draining w j) w.instances)) off) slot

      stage_then : slot_stage (world_of (entry ∷ past)) slot ≡ at_slot 3 (λ i. gate_stage (world_of (entry ∷ past)) (moved entry.step (world_of past) i)) (world_of past).instances slot
      stage_then = at_now 3 (gate_stage now) (λ i off. ap (λ b. cond b (cond (ends now i) (cond i.drained 3 1) 0) 3) off) slot

      -- of one instance
      abbrev was_level : ℕ → ℕ
      was_level stage_was = 4 * count + stage_was

      abbrev One : Instance → Type 0
      One i =
          4 * cond (is_opened entry.step i) (next_generation w.generations i) count + gate_stage now (moved entry.step w i)
          ≡ cond (begins i) (level_drained (is_posted entry.step i) (cond (is_opened entry.step i) (4 * next_generation w.generations i) (was_level (gate_stage w i))) + 1)
          (level_drained (is_posted entry.step i) (cond (is_opened entry.step i) (4 * next_generation w.generations i) (was_level (gate_stage w i))))

      one_by : ((i : Instance) → Contains w.instances i → is_active_instance i ≡ true → i.drained ≡ true → ends w i ≡ true) → (i : Instance) → Contains w.instances i → One i
      one_by drained_ends i h =
          let j = moved entry.step w i in
          let o = is_opened entry.step i in
          let p = is_posted entry.step i in
          let a = is_active_instance i in
          let b = is_active_instance j in
          let next = next_generation w.generations i in
          subst (λ x. 4 * cond o next count + gate_stage now j ≡ cond x (level_drained p (cond o (4 * next) (was_level (gate_stage w i))) + 1) (level_drained p (cond o (4 * next) (was_level (gate_stage w i))))) (sym (begins_is i h))
          (elim (move i h) [
            | stays op po same left ↦ moves_stays o p a (ends w i) i.drained b (ends now j) j.drained next count op po same left (goes_on i h) (drained_ends i h)
            | opens op po off on fresh ↦ moves_opens o p a (ends w i) i.drained b (ends now j) j.drained next count op po off on fresh
            | leaves op po on off ending drained ↦ moves_leaves o p a (ends w i) i.drained b (ends now j) j.drained next count op po on off ending drained
            | drains op po on also ending undrained drained ↦ moves_drains o p a (ends w i) i.drained b (ends now j) j.drained next count op po on also ending undrained drained (goes_on i h also ending)
          ])

      levels_then : ((i : Instance) → Contains (world_of past).instances i → is_active_instance i ≡ true → i.drained ≡ true → ends (world_of past) i ≡ true)
          → slot_level (world_of (entry ∷ past)) slot ≡ level_shut (shut_between (world_of past) (world_of (entry ∷ past))) slot (level_drained (is_drained_in entry.step (world_of past) slot) (level_reopened (reopened_in entry.step (world_of past)) slot (slot_level (world_of past) slot)))
      levels_then drained_ends =
          ap (λ n. 4 * n + slot_stage now slot) count_then
          ∙ ap (λ n. 4 * at_slot count (λ i. cond (is_opened entry.step i) (next_generation w.generations i) count) w.instances slot + n) stage_then
          ∙ go (find (λ (i : Instance). i.slot == slot) w.instances) refl
          ∙ sym (ap (λ b. cond b (level_drained (is_drained_in entry.step w slot) (level_reopened (reopened_in entry.step w) slot (slot_level w slot)) + 1) (level_drained (is_drained_in entry.step w slot) (level_reopened (reopened_in entry.step w) slot (slot_level w slot)))) shut_at
          ∙ ap (λ b. cond shut (level_drained b (level_reopened (reopened_in entry.step w) slot (slot_level w slot)) + 1) (level_drained b (level_reopened (reopened_in entry.step w) slot (slot_level w slot)))) (posted_at entry.step)
          ∙ ap (λ n. cond shut (level_drained posted n + 1) (level_drained posted n)) (reopened_level entry.step (slot_level w slot)))
        where
          shut : Bool
          shut = at_slot false (λ i. begins_draining w now (moved entry.step w i)) w.instances slot

          posted : Bool
          posted = at_slot false (is_posted entry.step) w.instances slot

          go : (o : Option Instance) → find (λ (i : Instance). i.slot == slot) w.instances ≡ o
              → 4 * option_map_or (λ i. cond (is_opened entry.step i) (next_generation w.generations i) count) o count + option_map_or (λ i. gate_stage now (moved entry.step w i)) o 3
              ≡ cond (option_map_or begins o false) (level_drained (option_map_or (is_posted entry.step) o false) (option_map_or (λ i. cond (is_opened entry.step i) (4 * next_generation w.generations i) (was_level (option_map_or (gate_stage w) o 3))) o (was_level (option_map_or (gate_stage w) o 3))) + 1)
              (level_drained (option_map_or (is_posted entry.step) o false) (option_map_or (λ i. cond (is_opened entry.step i) (4 * next_generation w.generations i) (was_level (option_map_or (gate_stage w) o 3))) o (was_level (option_map_or (gate_stage w) o 3))))
          go None free = refl
          go (Some i) is = one_by drained_ends i (found_was (λ (j : Instance). j.slot == slot) w.instances i is).0

    -- ---- where instances come from

    came_by : (step : Step) (i : Instance) → Contains (instances_by step w) i → ((j : Instance) × Contains w.instances j × (moved step w j ≡ i)) ⊎ (is_active_instance i ≡ false)
    came_by (Commanded command) i h = inl (i, h, refl)
    came_by (Begin turn instance configuration consumer Create chosen) i h =
        let new = created_at (before_turn w) turn instance configuration consumer chosen in
        elim (in_either w.instances (new ∷ []) i h) [
          | inl old ↦ inl (i, old, refl)
          | inr added ↦ inr (ap is_active_instance (sym (alone new i added)))
        ]
    came_by (Begin turn instance configuration consumer (Bind reference service) chosen) i h = inl (mapped_was (with_callback_begun (before_turn w) turn instance (Bind reference service)) w.instances i h)
    came_by (Begin turn instance configuration consumer (Updated reference service) chosen) i h = inl (mapped_was (with_callback_begun (before_turn w) turn instance (Updated reference service)) w.instances i h)
    came_by (Begin turn instance configuration consumer (Unbind reference service) chosen) i h = inl (mapped_was (with_callback_begun (before_turn w) turn instance (Unbind reference service)) w.instances i h)
    came_by (Begin turn instance configuration consumer Activate chosen) i h = inl (mapped_was (with_callback_begun (before_turn w) turn instance Activate) w.instances i h)
    came_by (Begin turn instance configuration consumer Modified chosen) i h = inl (mapped_was (with_callback_begun (before_turn w) turn instance Modified) w.instances i h)
    came_by (Begin turn instance configuration consumer Deactivate chosen) i h = inl (mapped_was (with_callback_begun (before_turn w) turn instance Deactivate) w.instances i h)
    came_by (Begin turn instance configuration consumer Destroy chosen) i h = inl (mapped_was (with_callback_begun (before_turn w) turn instance Destroy) w.instances i h)
    came_by (End turn outcome) i h = inl (mapped_was (ended_in turn outcome w.generations) w.instances i (kept_was lives_on (instances_told (End turn outcome) w) i h).0)
    came_by (Drained instance) i h = inl (mapped_was (drained_in instance) w.instances i h)
    came_by (Got bundle service) i h = inl (i, h, refl)
    came_by (Released place) i h = inl (i, h, refl)

    came : (i : Instance) → Contains (world_of (entry ∷ past)).instances i → ((j : Instance) × Contains (world_of past).instances j × (moved entry.step (world_of past) j ≡ i)) ⊎ (is_active_instance i ≡ false)
    came i h = came_by entry.step i (subst (λ (is : List Instance). Contains is i) instances_then h)

    -- an active instance whose drain is posted is ending
    drained_end_then : ((i : Instance) → Contains (world_of past).instances i → is_active_instance i ≡ true → i.drained ≡ true → ends (world_of past) i ≡ true)
        → (i : Instance) → Contains (world_of (entry ∷ past)).instances i → is_active_instance i ≡ true → i.drained ≡ true → ends (world_of (entry ∷ past)) i ≡ true
    drained_end_then before i h on drained = elim (came i h) [
      | inl was ↦ (
          let moved_on : is_active_instance (moved entry.step w was.0) ≡ true = ap is_active_instance was.2 ∙ on in
          let moved_drained : (moved entry.step w was.0).drained ≡ true = ap (λ (x : Instance). x.drained) was.2 ∙ drained in
          subst (λ (x : Instance). ends now x ≡ true) was.2 (elim (move was.0 was.1) [
            | stays op po same left ↦ goes_on was.0 was.1 moved_on (before was.0 was.1 (sym same ∙ moved_on) (sym left ∙ moved_drained))
            | opens op po off active fresh ↦ absurd (both_ways (moved entry.step w was.0).drained fresh moved_drained)
            | leaves op po active off ending posted ↦ absurd (both_ways (is_active_instance (moved entry.step w was.0)) off moved_on)
            | drains op po active also ending undrained posted ↦ goes_on was.0 was.1 moved_on ending
          ]))
      | inr off ↦ absurd (both_ways (is_active_instance i) off on)
    ]

    -- ---- the gates that are reopened, drained and shut

    stage_of : (i : Instance) → Contains (world_of past).instances i → slot_stage (world_of past) i.slot ≡ gate_stage (world_of past) i
    stage_of i h = at_own 3 (gate_stage w) w.instances apart i h

    opened_was_closed : (i : Instance) → Contains (world_of past).instances i → is_opened entry.step i ≡ true → slot_stage (world_of past) i.slot ≡ 3
    opened_was_closed i h it = elim (move i h) [
      | stays op po same left ↦ absurd (both_ways (is_opened entry.step i) op it)
      | opens op po off on fresh ↦ stage_of i h ∙ ap (λ b. cond b (cond (ends w i) (cond i.drained 3 1) 0) 3) off
      | leaves op po on off ending posted ↦ absurd (both_ways (is_opened entry.step i) op it)
      | drains op po on also ending undrained posted ↦ absurd (both_ways (is_opened entry.step i) op it)
    ]

    reopened_by_step : (step : Step) → entry.step ≡ step → (key : GateKey) → reopened_in step (world_of past) ≡ Some key → (slot_stage (world_of past) key.slot ≡ 3) × (key.generation ≡ slice_index (world_of past).generations key.slot + 1)
    reopened_by_step (End turn outcome) it key is = go (find (reopens turn outcome) w.instances) refl is
      where
        go : (o : Option Instance) → find (reopens turn outcome) w.instances ≡ o → option_map (λ (i : Instance). record { slot = i.slot; generation = next_generation w.generations i }) o ≡ Some key
            → (slot_stage w key.slot ≡ 3) × (key.generation ≡ slice_index w.generations key.slot + 1)
        go None none made = cc
        go (Some k) found made =
            let gate : GateKey = record { slot = k.slot; generation = next_generation w.generations k } in
            let same : gate ≡ key = cc in
            let was = found_was (reopens turn outcome) w.instances k found in
            subst (λ (x : GateKey). (slot_stage w x.slot ≡ 3) × (x.generation ≡ slice_index w.generations x.slot + 1)) same
            (opened_was_closed k was.0 (ap (λ (s : Step). is_opened s k) it ∙ was.1), refl)
    reopened_by_step (Commanded command) it key is = cc
    reopened_by_step (Begin turn instance configuration consumer callback chosen) it key is = cc
    reopened_by_step (Drained instance) it key is = cc
    reopened_by_step (Got bundle service) it key is = cc
    reopened_by_step (Released place) it key is = cc

    drained_was_shut : (i : Instance) → Contains (world_of past).instances i → entry.step ≡ Drained i.number → slot_level (world_of past) i.slot ≡ 4 * i.generation + 1
    drained_was_shut i h is =
        let it : is_posted entry.step i ≡ true = ap (λ (s : Step). is_posted s i) is ∙ eq-eqb i.number i.number refl in
        elim (move i h) [
          | stays op po same left ↦ absurd (both_ways (is_posted entry.step i) po it)
          | opens op po off on fresh ↦ absurd (both_ways (is_posted entry.step i) po it)
          | leaves op po on off ending posted ↦ absurd (both_ways (is_posted entry.step i) po it)
          | drains op po on also ending undrained posted ↦ (
              let one : gate_stage w i ≡ 1 = ap (λ b. cond b (cond (ends w i) (cond i.drained 3 1) 0) 3) on ∙ ap (λ b. cond b (cond i.drained 3 1) 0) ending ∙ ap (λ b. cond b 3 1) undrained in
              ap (λ n. 4 * slice_index w.generations i.slot + n) (stage_of i h ∙ one) ∙ ap (λ n. 4 * n + 1) (sym (last_generation limit past legal.1 i h on)))
        ]

    generation_moved : (i : Instance) → Contains (world_of past).instances i → Contains (world_of (entry ∷ past)).instances (moved entry.step (world_of past) i) → is_active_instance (moved entry.step (world_of past) i) ≡ true
        → (moved entry.step (world_of past) i).generation ≡ cond (is_opened entry.step i) (next_generation (world_of past).generations i) (slice_index (world_of past).generations i.slot)
    generation_moved i h there on =
        last_generation limit (entry ∷ past) legal (moved entry.step w i) there on ∙ ap (slice_index now.generations) (moved_same entry.step w i).slot ∙ count_then i.slot
        ∙ at_own (slice_index w.generations i.slot) (λ k. cond (is_opened entry.step k) (next_generation w.generations k) (slice_index w.generations i.slot)) w.instances apart i h

    level_moved : (i : Instance) → Contains (world_of past).instances i → level_reopened (reopened_in entry.step (world_of past)) i.slot (slot_level (world_of past) i.slot) ≡ cond (is_opened entry.step i) (4 * next_generation (world_of past).generations i) (slot_level (world_of past) i.slot)
    level_moved i h =
        reopened_level i.slot entry.step (slot_level w i.slot) ∙ at_own (slot_level w i.slot) (λ k. cond (is_opened entry.step k) (4 * next_generation w.generations k) (slot_level w i.slot)) w.instances apart i h

    -- an instance that begins to be drained
    shut_one : (i : Instance) → Contains (world_of past).instances i → Contains (world_of (entry ∷ past)).instances (moved entry.step (world_of past) i) → begins_draining (world_of past) (world_of (entry ∷ past)) (moved entry.step (world_of past) i) ≡ true
        → level_reopened (reopened_in entry.step (world_of past)) i.slot (slot_level (world_of past) i.slot) ≡ 4 * (moved entry.step (world_of past) i).generation
    shut_one i h there begins_it =
        let j = moved entry.step w i in
        let both = and_parts (is_draining now j) (not (is_draining w i)) (sym (begins_is i h) ∙ begins_it) in
        let on = (and_parts (is_active_instance j) (ends now j) both.0).0 in
        let not_yet = not_true (is_draining w i) both.1 in
        let last = generation_moved i h there on in
        let level = level_moved i h in
        elim (move i h) [
          | stays op po same left ↦ (
              let active : is_active_instance i ≡ true = sym same ∙ on in
              let open_yet : ends w i ≡ false = sym (ap (λ b. b && ends w i) active) ∙ not_yet in
              let kept : cond (is_opened entry.step i) (4 * next_generation w.generations i) (slot_level w i.slot) ≡ slot_level w i.slot = ap (λ b. cond b (4 * next_generation w.generations i) (slot_level w i.slot)) op in
              let staged : slot_stage w i.slot ≡ 0 = stage_of i h ∙ ap (λ b. cond b (cond (ends w i) (cond i.drained 3 1) 0) 3) active ∙ ap (λ b. cond b (cond i.drained 3 1) 0) open_yet in
              let of_slot : cond (is_opened entry.step i) (next_generation w.generations i) (slice_index w.generations i.slot) ≡ slice_index w.generations i.slot = ap (λ b. cond b (next_generation w.generations i) (slice_index w.generations i.slot)) op in
              omega (arith, level, kept, staged, last, of_slot))
          | opens op po off active fresh ↦ (
              let reopened : cond (is_opened entry.step i) (4 * next_generation w.generations i) (slot_level w i.slot) ≡ 4 * next_generation w.generations i = ap (λ b. cond b (4 * next_generation w.generations i) (slot_level w i.slot)) op in
              let of_slot : cond (is_opened entry.step i) (next_generation w.generations i) (slice_index w.generations i.slot) ≡ next_generation w.generations i = ap (λ b. cond b (next_generation w.generations i) (slice_index w.generations i.slot)) op in
              omega (arith, level, reopened, last, of_slot))
          | leaves op po active off ending posted ↦ absurd (both_ways (is_active_instance j) off on)
          | drains op po active also ending undrained posted ↦ absurd (both_ways (is_draining w i) not_yet (and_from (is_active_instance i) (ends w i) active ending))
        ]

    shut_was_open : (key : GateKey) → Contains (shut_between (world_of past) (world_of (entry ∷ past))) key → level_reopened (reopened_in entry.step (world_of past)) key.slot (slot_level (world_of past) key.slot) ≡ 4 * key.generation
    unfolding shut_between
    shut_was_open key h =
        let found = mapped_was gate_of (filter (begins_draining w now) (world_of (entry ∷ past)).instances) key h in
        let begins_it = kept_was (begins_draining w now) (world_of (entry ∷ past)).instances found.0 found.1 in
        subst (λ (x : GateKey). level_reopened (reopened_in entry.step w) x.slot (slot_level w x.slot) ≡ 4 * x.generation) found.2
        (elim (came found.0 begins_it.0) [
          | inl was ↦ subst (λ (x : Instance). level_reopened (reopened_in entry.step w) x.slot (slot_level w x.slot) ≡ 4 * x.generation) was.2
              (subst (λ n. level_reopened (reopened_in entry.step w) n (slot_level w n) ≡ 4 * (moved entry.step w was.0).generation) (sym (moved_same entry.step w was.0).slot)
              (shut_one was.0 was.1 (subst (λ (x : Instance). Contains (world_of (entry ∷ past)).instances x) (sym was.2) begins_it.0) (ap (begins_draining w now) was.2 ∙ begins_it.1)))
          | inr off ↦ absurd (both_ways (is_active_instance found.0) off
              (and_parts (is_active_instance found.0) (ends now found.0) (and_parts (is_draining now found.0) (not (list_any (λ (k : Instance). (k.number == found.0.number) && is_draining w k) w.instances)) begins_it.1).0).0)
        ])

-- in the world of every legal journal an active instance whose drain is posted is ending
pub drained_end : (limit : ℕ) (past : History) → IsLegal limit past → (i : Instance) → Contains (world_of past).instances i → is_active_instance i ≡ true → i.drained ≡ true → ends (world_of past) i ≡ true
unfolding world_of
drained_end limit [] legal i h on drained = absurd (in_none i h)
drained_end limit (entry ∷ past) legal i h on drained = drained_end_then limit entry past legal legal.0.step (drained_end limit past legal.1) i h on drained

pub moves_levels : (limit : ℕ) (entry : Entry Step) (past : History) → IsLegal limit (entry ∷ past) → MovesLevels entry.step (world_of past) (world_of (entry ∷ past))
moves_levels limit entry past legal = record {
  levels = λ slot. levels_then limit entry past legal legal.0.step slot (drained_end limit past legal.1);
  reopened = reopened_by_step limit entry past legal legal.0.step entry.step refl;
  drained = drained_was_shut limit entry past legal legal.0.step;
  shut = shut_was_open limit entry past legal legal.0.step;
}
