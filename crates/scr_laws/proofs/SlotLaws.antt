-- A Create takes the lowest free slot, and so living instances have different slots.
use Rattle.std.proofs.Common.{◌≡◌, ◌<◌, ◌≤◌, ◌⊎◌, ℕ, zero, suc, ◌+◌, List, [], ◌∷◌, ◌++◌, length, ap, sym, ◌∙◌, refl, subst, cond, arith, Bool, true, false, ◌&&◌, ◌||◌, inl, inr}
use Rattle.std.specs.Prelude.{map, not, ◌==◌}
use Rattle.std.specs.List.{Contains, range_with_len}
use Rattle.std.proofs.lemmas.Bool.{both_ways, cases_eq, eqb-true}
use Rattle.std.proofs.lemmas.List.FromFn.{length-range_with_len}
use Rattle.callback_orders.specs.declared.callback.Callback.{Callback}
use Rattle.component_state.specs.declared.origin.Choice.{Choice}
use Rattle.component_state.specs.Inside.Ready.{are_apart}
use Rattle.component_state.proofs.Apart.{apart_both, apart_kept, key_in, keyed, mapped_long, no_longer}
use Rattle.journal_core.specs.declared.entry.Entry.{Entry}
use Rattle.prop_map.specs.Words.{has}
use Rattle.scr_laws.specs.Slots.{HaveOwnSlots, IsLowestFree, WasThere}
use Rattle.scr_laws.proofs.InstanceLemmas.{begun_cases, drained_same, ended_same, instance_was, mapped_alike, mapped_over, told_same}
use Rattle.scr_world.specs.declared.instance.Instance.{Instance}
use Rattle.scr_world.specs.declared.step.Step.{Step}
use Rattle.scr_world.specs.declared.step.Step.TheVariants.{Command as Commanded, Begin, End, Drained, Got, Released}
use Rattle.scr_world.specs.declared.world.World.{World}
use Rattle.scr_world.specs.Instances.{begun_by, created_at, drained_in, ended_in, first_free_from, first_free_slot, lives_on, with_callback_begun}
use Rattle.scr_world.specs.Lists.{world_after_entry, world_of}
use Rattle.scr_world.specs.Steps.{History}
use Rattle.scr_world.specs.Stepping.{before_turn, instances_by, instances_told, world_after_step}

-- ---- a list that has the first n numbers is as long

pub in_range : (from n k : ℕ) → has (range_with_len from n) k ≡ true → k < from + n
in_range from zero k is = cc
in_range from (suc n) k is = go (from == k) refl is (in_range (from + 1) n k)
  where
    go : (b : Bool) → (from == k) ≡ b → (b || has (range_with_len (from + 1) n) k) ≡ true → (has (range_with_len (from + 1) n) k ≡ true → k < (from + 1) + n) → k < from + suc n
    go true same h later = (let e = eqb-true from k same in omega (arith, e))
    go false off h later = (let low = later h in omega (arith, low))

below_range : (from n low : ℕ) → low < from → has (range_with_len from n) low ≡ false
below_range from n low is = go (has (range_with_len from n) low) refl
  where
    at_least : (first m k : ℕ) → has (range_with_len first m) k ≡ true → first ≤ k
    at_least first zero k h = cc
    at_least first (suc m) k h = step (first == k) refl h (at_least (first + 1) m k)
      where
        step : (b : Bool) → (first == k) ≡ b → (b || has (range_with_len (first + 1) m) k) ≡ true → (has (range_with_len (first + 1) m) k ≡ true → first + 1 ≤ k) → first ≤ k
        step true same g later = (let e = eqb-true first k same in omega (arith, e))
        step false off g later = (let high = later g in omega (arith, high))

    go : (b : Bool) → has (range_with_len from n) low ≡ b → b ≡ false
    go false h = refl
    go true h = absurd (let high = at_least from n low h in omega (arith, high, is))

pub range_apart : (from n : ℕ) → are_apart (range_with_len from n) ≡ true
range_apart from zero = refl
range_apart from (suc n) = ap (λ b. not b && are_apart (range_with_len (from + 1) n)) (below_range (from + 1) n from (omega arith)) ∙ range_apart (from + 1) n

pub crowded : (n : ℕ) (ts : List ℕ) → ((k : ℕ) → k < n → has ts k ≡ true) → n ≤ length ts
crowded n ts each =
    let long = no_longer (range_with_len 0 n) ts (range_apart 0 n) (λ k is. each k (let low = in_range 0 n k is in omega (arith, low))) in
    let size = length-range_with_len 0 n in
    omega (arith, long, size)

-- ---- the lowest free number

with_place : (ts : List ℕ) (place : ℕ) → ((k : ℕ) → k < place → has ts k ≡ true) → has ts place ≡ true → (k : ℕ) → k < place + 1 → has ts k ≡ true
with_place ts place each here k low = elim (cases_eq k place) [
  | inl same ↦ ap (has ts) same ∙ here
  | inr other ↦ each k (omega (arith, low, other))
]

first_is_free : (ts : List ℕ) (more place : ℕ) → ((k : ℕ) → k < place → has ts k ≡ true) → place + more ≡ length ts → has ts (first_free_from ts more place) ≡ false
first_is_free ts zero place each all = go (has ts place) refl
  where
    go : (b : Bool) → has ts place ≡ b → b ≡ false
    go true is = absurd (let many = crowded (place + 1) ts (with_place ts place each is) in omega (arith, many, all))
    go false is = refl
first_is_free ts (suc more) place each all =
    go (λ is. first_is_free ts more (place + 1) (with_place ts place each is) (omega (arith, all))) (has ts place) refl
  where
    go : (has ts place ≡ true → has ts (first_free_from ts more (place + 1)) ≡ false) → (b : Bool) → has ts place ≡ b → has ts (cond b (first_free_from ts more (place + 1)) place) ≡ false
    go later true is = later is
    go later false is = is

-- what is lower is taken
lower_are_taken : (ts : List ℕ) (more place : ℕ) → ((k : ℕ) → k < place → has ts k ≡ true) → (k : ℕ) → k < first_free_from ts more place → has ts k ≡ true
lower_are_taken ts zero place each k low = each k low
lower_are_taken ts (suc more) place each k low =
    go (λ is below. lower_are_taken ts more (place + 1) (with_place ts place each is) k below) (has ts place) refl low
  where
    go : (has ts place ≡ true → k < first_free_from ts more (place + 1) → has ts k ≡ true) → (b : Bool) → has ts place ≡ b → k < cond b (first_free_from ts more (place + 1)) place → has ts k ≡ true
    go later true is below = later is below
    go later false is below = each k below

abbrev slot_in : Instance → ℕ
slot_in i = i.slot

slot_is_free : (is : List Instance) → has (map slot_in is) (first_free_slot is) ≡ false
slot_is_free is = first_is_free (map slot_in is) (length is) 0 (λ k low. absurd (omega (arith, low))) (let size = mapped_long slot_in is in omega (arith, size))

pub lower_slots_taken : (is : List Instance) (k : ℕ) → k < first_free_slot is → has (map slot_in is) k ≡ true
lower_slots_taken is k low = lower_are_taken (map slot_in is) (length is) 0 (λ j none. absurd (omega (arith, none))) k low

lowest_free : (is : List Instance) → IsLowestFree is (first_free_slot is)
lowest_free is = (
  λ i h same. both_ways (has (map slot_in is) (first_free_slot is)) (slot_is_free is) (ap (has (map slot_in is)) (sym same) ∙ key_in slot_in is i h),
  λ lower low. keyed slot_in is lower (lower_slots_taken is lower low),
)

-- ---- a step leaves slots different

mapped : (g : Instance → Instance) → ((i : Instance) → (g i).slot ≡ i.slot) → (is : List Instance) → HaveOwnSlots is → HaveOwnSlots (map g is)
mapped g same is each = ap are_apart (mapped_alike slot_in g same is) ∙ each

with_new : (is : List Instance) (new : Instance) → new.slot ≡ first_free_slot is → HaveOwnSlots is → HaveOwnSlots (is ++ new ∷ [])
with_new is new lowest each = ap are_apart (mapped_over slot_in is (new ∷ [])) ∙ apart_both (map slot_in is) (new.slot ∷ []) each refl other
  where
    other : (n : ℕ) → has (map slot_in is) n ≡ true → has (new.slot ∷ []) n ≡ true → ⊥
    other n old here = go (new.slot == n) refl here
      where
        go : (b : Bool) → (new.slot == n) ≡ b → (b || false) ≡ true → ⊥
        go false off h = cc
        go true same h = both_ways (has (map slot_in is) n) (ap (has (map slot_in is)) (sym (eqb-true new.slot n same) ∙ lowest) ∙ slot_is_free is) old

begun_differ : (w : World) (turn instance configuration consumer : ℕ) (callback : Callback) (chosen : List Choice) → HaveOwnSlots w.instances
    → HaveOwnSlots (begun_by (before_turn w) turn instance configuration consumer callback chosen)
begun_differ w turn instance configuration consumer callback chosen each = elim (begun_cases callback) [
  | inl create ↦ subst (λ (c : Callback). HaveOwnSlots (begun_by (before_turn w) turn instance configuration consumer c chosen)) (sym create)
      (with_new w.instances (created_at (before_turn w) turn instance configuration consumer chosen) refl each)
  | inr tells ↦ subst (λ (is : List Instance). HaveOwnSlots is) (sym (tells (before_turn w) turn instance configuration consumer chosen))
      (mapped (with_callback_begun (before_turn w) turn instance callback) (λ i. (told_same (before_turn w) turn instance callback i).slot) w.instances each)
]

after_step : (step : Step) (w : World) → HaveOwnSlots w.instances → HaveOwnSlots (instances_by step w)
after_step (Commanded command) w each = each
after_step (Begin turn instance configuration consumer callback chosen) w each = begun_differ w turn instance configuration consumer callback chosen each
after_step (End turn outcome) w each =
    apart_kept slot_in lives_on (instances_told (End turn outcome) w) (mapped (ended_in turn outcome w.generations) (λ i. (ended_same turn outcome w.generations i).slot) w.instances each)
after_step (Drained instance) w each = mapped (drained_in instance) (λ i. (drained_same instance i).slot) w.instances each
after_step (Got bundle service) w each = each
after_step (Released place) w each = each

pub slots_differ_in : (journal : History) → HaveOwnSlots (world_of journal).instances
unfolding world_of world_after_entry world_after_step
slots_differ_in [] = refl
slots_differ_in (entry ∷ past) = after_step entry.step (world_of past) (slots_differ_in past)

-- ---- a Create takes the lowest

pub slots_taken : (entry : Entry Step) (past : History) (i : Instance) → Contains (world_of (entry ∷ past)).instances i → WasThere (world_of past).instances i ⊎ IsLowestFree (world_of past).instances i.slot
unfolding world_of world_after_entry world_after_step
slots_taken entry past i h = let w = world_of past in elim (instance_was w entry.step i h) [
  | inl was ↦ inl (was.0, was.1, sym was.2.number, sym was.2.slot)
  | inr made ↦ inr (subst (λ (x : Instance). IsLowestFree w.instances x.slot) made.4.1.1 (lowest_free w.instances))
]
