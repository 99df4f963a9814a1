-- A slot's count is how often it was opened, and each key has the count that it left. So no key is opened twice.
use Rattle.std.proofs.Common.{◌≡◌, ◌<◌, ◌≤◌, ℕ, zero, suc, ◌+◌, List, [], ◌∷◌, ◌++◌, length, get_or, ap, sym, ◌∙◌, refl, subst, cond, arith, Bool, true, false, ◌&&◌, ◌||◌, inl, inr, ◌⊎◌, Option, Some, None, append-nil}
use Rattle.std.specs.Prelude.{map, filter, find, not, ◌==◌, nat_lt, option_map, slice_set}
use Rattle.std.specs.List.{Contains, list_any, range_with_len}
use Rattle.std.specs.Option.{option_map_or}
use Rattle.std.proofs.lemmas.Bool.{and_from, and_parts, cases_eq, cases_lt, eq-eqb, eqb-true, ltb-true, ne_eqb}
use Rattle.std.proofs.lemmas.List.{get_or-set_other, get_or-set_same, length-append, length-set}
use Rattle.callback_orders.specs.declared.callback.Callback.{Callback}
use Rattle.callback_orders.specs.declared.callback.Outcome.{Outcome}
use Rattle.callback_orders.specs.Grammar.{is_create}
use Rattle.component_state.specs.declared.origin.Choice.{Choice}
use Rattle.component_state.proofs.Apart.{in_either, in_first, in_none, in_rest, kept_from, kept_over, kept_was, key_in, keyed, not_true}
use Rattle.journal_core.specs.declared.entry.GateKey.{GateKey}
use Rattle.prop_map.specs.Words.{has}
use Rattle.scr_laws.specs.GateKeys.{generations_of, is_key, keys_by, keys_differ, keys_of}
use Rattle.scr_laws.specs.Numbers.{AreNumbersOn}
use Rattle.scr_laws.proofs.Counting.{numbers_on, range_joined}
use Rattle.scr_laws.proofs.InstanceLemmas.{alone, begun_cases, drained_same, ended_same, found_was, mapped_over, mapped_was, told_same}
use Rattle.scr_laws.proofs.SlotLaws.{in_range, lower_slots_taken}
use Rattle.scr_world.specs.declared.instance.Instance.{Instance}
use Rattle.scr_world.specs.declared.step.Step.{Step}
use Rattle.scr_world.specs.declared.step.Step.TheVariants.{Command as Commanded, Begin, End, Drained, Got, Released}
use Rattle.scr_world.specs.declared.world.World.{World}
use Rattle.scr_world.specs.Instances.{becomes_active, begun_by, created_at, drained_in, ended_in, first_free_slot, has_turn, lives_on, next_generation, with_callback_begun}
use Rattle.scr_world.specs.Lists.{world_after_entry, world_of}
use Rattle.scr_world.specs.Steps.{History}
use Rattle.scr_world.specs.Stepping.{before_turn, generations_by, instances_by, instances_told, reopened_for, with_room_for, world_after_step}

-- how often the gate of a slot was opened
abbrev pub count_of : List ℕ → ℕ → ℕ
count_of generations slot = get_or generations slot 0

-- the counts have room for the slot of each living instance
abbrev pub HaveRoom : List Instance → List ℕ → Type 0
HaveRoom is generations = (i : Instance) → Contains is i → i.slot < length generations

-- ---- a new slot has room

room_count : (generations : List ℕ) (slot : ℕ) → count_of (generations ++ 0 ∷ []) slot ≡ count_of generations slot
room_count [] zero = refl
room_count [] (suc n) = refl
room_count (g ∷ generations) zero = refl
room_count (g ∷ generations) (suc n) = room_count generations n

pub counts_kept : (slot : ℕ) (generations : List ℕ) (other : ℕ) → count_of (with_room_for slot generations) other ≡ count_of generations other
counts_kept slot generations other = go (nat_lt slot (length generations))
  where
    go : (b : Bool) → count_of (cond b generations (generations ++ 0 ∷ [])) other ≡ count_of generations other
    go true = refl
    go false = room_count generations other

more_room : (slot : ℕ) (generations : List ℕ) → length generations ≤ length (with_room_for slot generations)
more_room slot generations = go (nat_lt slot (length generations))
  where
    go : (b : Bool) → length generations ≤ length (cond b generations (generations ++ 0 ∷ []))
    go true = omega arith
    go false = omega (arith, length-append generations (0 ∷ []))

its_room : (slot : ℕ) (generations : List ℕ) → slot ≤ length generations → slot < length (with_room_for slot generations)
its_room slot generations low = go (nat_lt slot (length generations)) refl
  where
    go : (b : Bool) → nat_lt slot (length generations) ≡ b → slot < length (cond b generations (generations ++ 0 ∷ []))
    go true is = ltb-true slot (length generations) is
    go false is = omega (arith, low, length-append generations (0 ∷ []))

-- the lowest free slot is at most the next one
lowest_low : (is : List Instance) (generations : List ℕ) → HaveRoom is generations → first_free_slot is ≤ length generations
lowest_low is generations room = elim (cases_lt (length generations) (first_free_slot is)) [
  | inl high ↦ (
      let found = keyed (λ (i : Instance). i.slot) is (length generations) (lower_slots_taken is (length generations) high) in
      absurd (omega (arith, room found.0 found.1, found.2)))
  | inr low ↦ low
]

room_mapped : (g : Instance → Instance) → ((i : Instance) → (g i).slot ≡ i.slot) → (is : List Instance) (generations : List ℕ) → HaveRoom is generations → HaveRoom (map g is) generations
room_mapped g same is generations room i h =
    let found = mapped_was g is i h in
    let slot : i.slot ≡ found.0.slot = ap (λ (x : Instance). x.slot) (sym found.2) ∙ same found.0 in
    omega (arith, slot, room found.0 found.1)

-- ---- after a step there is room

made_room : (w : World) (new : Instance) → new.slot ≡ first_free_slot w.instances → HaveRoom w.instances w.generations → HaveRoom (w.instances ++ new ∷ []) (with_room_for (first_free_slot w.instances) w.generations)
made_room w new lowest room i h = elim (in_either w.instances (new ∷ []) i h) [
  | inl old ↦ omega (arith, room i old, more_room (first_free_slot w.instances) w.generations)
  | inr added ↦ (
      let slot : i.slot ≡ first_free_slot w.instances = ap (λ (x : Instance). x.slot) (sym (alone new i added)) ∙ lowest in
      omega (arith, slot, its_room (first_free_slot w.instances) w.generations (lowest_low w.instances w.generations room)))
]

told_room : (w : World) (b : Bool) (is : List Instance) → HaveRoom is w.generations → HaveRoom is (cond b (with_room_for (first_free_slot w.instances) w.generations) w.generations)
told_room w true is room i h = omega (arith, room i h, more_room (first_free_slot w.instances) w.generations)
told_room w false is room i h = room i h

begun_room : (w : World) (turn instance configuration consumer : ℕ) (callback : Callback) (chosen : List Choice) → HaveRoom w.instances w.generations
    → HaveRoom (begun_by (before_turn w) turn instance configuration consumer callback chosen) (cond (is_create callback) (with_room_for (first_free_slot w.instances) w.generations) w.generations)
begun_room w turn instance configuration consumer callback chosen room = elim (begun_cases callback) [
  | inl create ↦ subst (λ (c : Callback). HaveRoom (begun_by (before_turn w) turn instance configuration consumer c chosen) (cond (is_create c) (with_room_for (first_free_slot w.instances) w.generations) w.generations)) (sym create)
      (made_room w (created_at (before_turn w) turn instance configuration consumer chosen) refl room)
  | inr tells ↦ subst (λ (is : List Instance). HaveRoom is (cond (is_create callback) (with_room_for (first_free_slot w.instances) w.generations) w.generations)) (sym (tells (before_turn w) turn instance configuration consumer chosen))
      (told_room w (is_create callback) (map (with_callback_begun (before_turn w) turn instance callback) w.instances)
      (room_mapped (with_callback_begun (before_turn w) turn instance callback) (λ i. (told_same (before_turn w) turn instance callback i).slot) w.instances w.generations room))
]

abbrev pub reopens : ℕ → Outcome → Instance → Bool
reopens turn outcome i = has_turn turn i && becomes_active outcome i

-- the instance that is found first is that of the filtered list
abbrev pub reopened_first : Option Instance → List ℕ → List ℕ
reopened_first None generations = generations
reopened_first (Some i) generations = slice_set generations i.slot (next_generation generations i)

pub reopened_is : (p : Instance → Bool) (is : List Instance) (generations : List ℕ) → reopened_for (filter p is) generations ≡ reopened_first (find p is) generations
reopened_is p [] generations = refl
reopened_is p (i ∷ is) generations = go (p i) (reopened_is p is generations)
  where
    go : (b : Bool) → reopened_for (filter p is) generations ≡ reopened_first (find p is) generations → reopened_for (cond b (i ∷ filter p is) (filter p is)) generations ≡ reopened_first (cond b (Some i) (find p is)) generations
    go true later = refl
    go false later = later

reopened_length : (found : Option Instance) (generations : List ℕ) → length (reopened_first found generations) ≡ length generations
reopened_length None generations = refl
reopened_length (Some i) generations = length-set generations i.slot (next_generation generations i)

room_after : (step : Step) (w : World) → HaveRoom w.instances w.generations → HaveRoom (instances_by step w) (generations_by step w)
room_after (Commanded command) w room i h = room i h
room_after (Begin turn instance configuration consumer callback chosen) w room i h = begun_room w turn instance configuration consumer callback chosen room i h
room_after (End turn outcome) w room i h =
    let told_one = (kept_was lives_on (instances_told (End turn outcome) w) i h).0 in
    let size : length (generations_by (End turn outcome) w) ≡ length w.generations =
    ap length (reopened_is (reopens turn outcome) w.instances w.generations) ∙ reopened_length (find (reopens turn outcome) w.instances) w.generations in
    omega (arith, size, room_mapped (ended_in turn outcome w.generations) (λ j. (ended_same turn outcome w.generations j).slot) w.instances w.generations room i told_one)
room_after (Drained instance) w room i h = room_mapped (drained_in instance) (λ j. (drained_same instance j).slot) w.instances w.generations room i h
room_after (Got bundle service) w room i h = room i h
room_after (Released place) w room i h = room i h

pub room_in : (journal : History) → HaveRoom (world_of journal).instances (world_of journal).generations
unfolding world_of world_after_entry world_after_step
room_in [] i h = absurd (in_none i h)
room_in (entry ∷ past) i h = room_after entry.step (world_of past) (room_in past) i h

-- ---- after a step each slot was opened as often as its count says

abbrev key_for : List ℕ → Instance → GateKey
key_for generations i = record { slot = i.slot; generation = next_generation generations i }

-- the generations of each slot are 1, 2 and so on, up to its count
abbrev AreCounted : List GateKey → List ℕ → Type 0
AreCounted ks generations = (slot : ℕ) → generations_of slot ks ≡ range_with_len 1 (count_of generations slot)

abbrev opened_key : Option Instance → List ℕ → List GateKey
opened_key found generations = option_map_or (λ (key : GateKey). key ∷ []) (option_map (key_for generations) found) []

of_more : (slot : ℕ) (ks more : List GateKey) → generations_of slot (ks ++ more) ≡ generations_of slot ks ++ generations_of slot more
of_more slot ks more = ap (map (λ (k : GateKey). k.generation)) (kept_over (λ (k : GateKey). k.slot == slot) ks more) ∙ mapped_over (λ (k : GateKey). k.generation) (filter (λ (k : GateKey). k.slot == slot) ks) (filter (λ (k : GateKey). k.slot == slot) more)

counted_found : (found : Option Instance) (ks : List GateKey) (generations : List ℕ) → ((i : Instance) → found ≡ Some i → i.slot < length generations) → AreCounted ks generations
    → AreCounted (ks ++ opened_key found generations) (reopened_first found generations)
counted_found None ks generations room counted slot = of_more slot ks [] ∙ append-nil (generations_of slot ks) ∙ counted slot
counted_found (Some i) ks generations room counted slot =
    of_more slot ks (key_for generations i ∷ []) ∙ ap (λ ns. ns ++ generations_of slot (key_for generations i ∷ [])) (counted slot) ∙ one (cases_eq i.slot slot)
  where
    low : i.slot < length generations
    low = room i refl

    one : (i.slot ≡ slot) ⊎ (i.slot ≡ slot → ⊥) → range_with_len 1 (count_of generations slot) ++ generations_of slot (key_for generations i ∷ []) ≡ range_with_len 1 (count_of (slice_set generations i.slot (next_generation generations i)) slot)
    one (inl same) =
        ap (λ b. range_with_len 1 (count_of generations slot) ++ map (λ (k : GateKey). k.generation) (cond b (key_for generations i ∷ []) [])) (eq-eqb i.slot slot same)
        ∙ ap (λ n. range_with_len 1 (count_of generations slot) ++ n ∷ []) (ap (λ s. count_of generations s + 1) same ∙ omega arith)
        ∙ range_joined 1 (count_of generations slot) 1
        ∙ ap (range_with_len 1) (sym (ap (count_of (slice_set generations i.slot (next_generation generations i))) (sym same) ∙ get_or-set_same generations i.slot (next_generation generations i) 0 low ∙ ap (λ s. count_of generations s + 1) same))
    one (inr other) =
        ap (λ b. range_with_len 1 (count_of generations slot) ++ map (λ (k : GateKey). k.generation) (cond b (key_for generations i ∷ []) [])) (ne_eqb i.slot slot other)
        ∙ append-nil (range_with_len 1 (count_of generations slot))
        ∙ ap (range_with_len 1) (sym (get_or-set_other generations i.slot slot (next_generation generations i) 0 (λ e. other (sym e))))

kept_by : (b : Bool) (lowest : ℕ) (ks : List GateKey) (generations : List ℕ) → AreCounted ks generations → AreCounted (ks ++ []) (cond b (with_room_for lowest generations) generations)
kept_by false lowest ks generations counted slot = of_more slot ks [] ∙ append-nil (generations_of slot ks) ∙ counted slot
kept_by true lowest ks generations counted slot = of_more slot ks [] ∙ append-nil (generations_of slot ks) ∙ counted slot ∙ ap (range_with_len 1) (sym (counts_kept lowest generations slot))

counted_after : (step : Step) (w : World) (ks : List GateKey) → HaveRoom w.instances w.generations → AreCounted ks w.generations → AreCounted (ks ++ keys_by step w) (generations_by step w)
counted_after (Commanded command) w ks room counted = kept_by false 0 ks w.generations counted
counted_after (Begin turn instance configuration consumer callback chosen) w ks room counted = kept_by (is_create callback) (first_free_slot w.instances) ks w.generations counted
counted_after (End turn outcome) w ks room counted =
    subst (λ (gs : List ℕ). AreCounted (ks ++ keys_by (End turn outcome) w) gs) (sym (reopened_is (reopens turn outcome) w.instances w.generations))
    (counted_found (find (reopens turn outcome) w.instances) ks w.generations (λ i is. room i (found_was (reopens turn outcome) w.instances i is).0) counted)
counted_after (Drained instance) w ks room counted = kept_by false 0 ks w.generations counted
counted_after (Got bundle service) w ks room counted = kept_by false 0 ks w.generations counted
counted_after (Released place) w ks room counted = kept_by false 0 ks w.generations counted

pub counted_in : (journal : History) (slot : ℕ) → generations_of slot (keys_of journal) ≡ range_with_len 1 (count_of (world_of journal).generations slot)
unfolding world_of world_after_entry world_after_step
counted_in [] slot = go slot
  where
    go : (n : ℕ) → [] ≡ range_with_len 1 (get_or [] n 0)
    go zero = refl
    go (suc n) = refl
counted_in (entry ∷ past) slot = counted_after entry.step (world_of past) (keys_of past) (room_in past) (counted_in past) slot

pub generations_numbered : (journal : History) (slot : ℕ) → AreNumbersOn (generations_of slot (keys_of journal))
generations_numbered journal slot = numbers_on (generations_of slot (keys_of journal)) (count_of (world_of journal).generations slot) (counted_in journal slot)

-- ---- so no two keys are the same

differ_more : (ks : List GateKey) (k : GateKey) → keys_differ ks ≡ true → ((l : GateKey) → Contains ks l → l.slot ≡ k.slot → l.generation ≡ k.generation → ⊥) → keys_differ (ks ++ k ∷ []) ≡ true
differ_more [] k differ none = refl
differ_more (l ∷ ls) k differ none =
    let parts = and_parts (not (list_any (is_key l) ls)) (keys_differ ls) differ in
    and_from (not (list_any (is_key l) (ls ++ k ∷ []))) (keys_differ (ls ++ k ∷ []))
    (ap not (any_over (is_key l) ls k ∙ ap (λ b. b || is_key l k) (not_true (list_any (is_key l) ls) parts.0) ∙ off (is_key l k) refl))
    (differ_more ls k parts.1 (λ m h s g. none m (in_rest l ls m h) s g))
  where
    any_over : (p : GateKey → Bool) (xs : List GateKey) (x : GateKey) → list_any p (xs ++ x ∷ []) ≡ (list_any p xs || p x)
    any_over p [] x = plain (p x)
      where
        plain : (b : Bool) → (b || false) ≡ b
        plain true = refl
        plain false = refl
    any_over p (y ∷ ys) x = ap (λ b. p y || b) (any_over p ys x) ∙ turn (p y)
      where
        turn : (b : Bool) → (b || (list_any p ys || p x)) ≡ ((b || list_any p ys) || p x)
        turn true = refl
        turn false = refl

    off : (b : Bool) → is_key l k ≡ b → b ≡ false
    off false is = refl
    off true is = let same = and_parts (k.slot == l.slot) (k.generation == l.generation) is in
        absurd (none l (in_first l ls) (sym (eqb-true k.slot l.slot same.0)) (sym (eqb-true k.generation l.generation same.1)))

differ_found : (found : Option Instance) (ks : List GateKey) (generations : List ℕ) → AreCounted ks generations → keys_differ ks ≡ true → keys_differ (ks ++ opened_key found generations) ≡ true
differ_found None ks generations counted differ = ap keys_differ (append-nil ks) ∙ differ
differ_found (Some i) ks generations counted differ = differ_more ks (key_for generations i) differ fresh
  where
    fresh : (l : GateKey) → Contains ks l → l.slot ≡ i.slot → l.generation ≡ next_generation generations i → ⊥
    fresh l h slot generation =
        let kept = kept_from (λ (k : GateKey). k.slot == i.slot) ks l h (eq-eqb l.slot i.slot slot) in
        let there = key_in (λ (k : GateKey). k.generation) (filter (λ (k : GateKey). k.slot == i.slot) ks) l kept in
        let low = in_range 1 (count_of generations i.slot) l.generation (ap (λ ns. has ns l.generation) (sym (counted i.slot)) ∙ there) in
        omega (arith, low, generation)

differ_after : (step : Step) (w : World) (ks : List GateKey) → AreCounted ks w.generations → keys_differ ks ≡ true → keys_differ (ks ++ keys_by step w) ≡ true
differ_after (Commanded command) w ks counted differ = ap keys_differ (append-nil ks) ∙ differ
differ_after (Begin turn instance configuration consumer callback chosen) w ks counted differ = ap keys_differ (append-nil ks) ∙ differ
differ_after (End turn outcome) w ks counted differ = differ_found (find (reopens turn outcome) w.instances) ks w.generations counted differ
differ_after (Drained instance) w ks counted differ = ap keys_differ (append-nil ks) ∙ differ
differ_after (Got bundle service) w ks counted differ = ap keys_differ (append-nil ks) ∙ differ
differ_after (Released place) w ks counted differ = ap keys_differ (append-nil ks) ∙ differ

pub keys_differ_in : (journal : History) → keys_differ (keys_of journal) ≡ true
keys_differ_in [] = refl
keys_differ_in (entry ∷ past) = differ_after entry.step (world_of past) (keys_of past) (counted_in past) (keys_differ_in past)
