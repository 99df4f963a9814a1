-- What the instance at a slot says, in lists of instances of which each has a slot of its own.
use Rattle.std.proofs.Common.{◌≡◌, ℕ, List, [], ◌∷◌, ◌++◌, ap, sym, ◌∙◌, refl, cond, Bool, true, false, ◌&&◌, ◌||◌, inl, inr, Option, Some, None}
use Rattle.std.specs.Prelude.{filter, find, map, not, ◌==◌}
use Rattle.std.specs.List.{Contains, list_any}
use Rattle.std.specs.Option.{option_map_or}
use Rattle.std.proofs.lemmas.Bool.{and_from, and_parts, both_ways, cases_Bool, eq-eqb, eqb-true}
use Rattle.component_state.specs.Inside.Ready.{are_apart}
use Rattle.component_state.proofs.Apart.{any_found, any_from, either_way, in_first, in_rest, not_true, one_of}
use Rattle.journal_core.specs.declared.entry.GateKey.{GateKey}
use Rattle.prop_map.specs.Words.{has}
use Rattle.scr_laws.proofs.Listed.{found_is, found_was, none_found}
use Rattle.scr_world.specs.Consequences.{gate_of}
use Rattle.scr_world.specs.declared.instance.Instance.{Instance}

abbrev pub slot_in : Instance → ℕ
slot_in i = i.slot

-- what a function says of the instance at a slot
abbrev pub at_slot : {Y : Type 0} → Y → (Instance → Y) → List Instance → ℕ → Y
at_slot none f is slot = option_map_or f (find (λ (i : Instance). i.slot == slot) is) none

module _ {Y : Type 0} (none : Y) (f : Instance → Y) (slot : ℕ) where
  none_at : (is : List Instance) → has (map slot_in is) slot ≡ false → at_slot none f is slot ≡ none
  none_at [] free = refl
  none_at (i ∷ is) free = go (i.slot == slot) free (none_at is)
    where
      go : (b : Bool) → (b || has (map slot_in is) slot) ≡ false → (has (map slot_in is) slot ≡ false → at_slot none f is slot ≡ none) → option_map_or f (cond b (Some i) (find (λ (j : Instance). j.slot == slot) is)) none ≡ none
      go true h later = cc
      go false h later = later h

  pub at_mapped : (g : Instance → Instance) → ((i : Instance) → (g i).slot ≡ i.slot) → (is : List Instance) → at_slot none f (map g is) slot ≡ at_slot none (λ i. f (g i)) is slot
  at_mapped g same [] = refl
  at_mapped g same (i ∷ is) = ap (λ n. option_map_or f (cond (n == slot) (Some (g i)) (find (λ (j : Instance). j.slot == slot) (map g is))) none) (same i) ∙ go (i.slot == slot) (at_mapped g same is)
    where
      go : (b : Bool) → at_slot none f (map g is) slot ≡ at_slot none (λ j. f (g j)) is slot
          → option_map_or f (cond b (Some (g i)) (find (λ (j : Instance). j.slot == slot) (map g is))) none ≡ option_map_or (λ j. f (g j)) (cond b (Some i) (find (λ (j : Instance). j.slot == slot) is)) none
      go true later = refl
      go false later = later

  pub at_pushed : (new : Instance) → f new ≡ none → (is : List Instance) → at_slot none f (is ++ new ∷ []) slot ≡ at_slot none f is slot
  at_pushed new says [] = go (new.slot == slot)
    where
      go : (b : Bool) → option_map_or f (cond b (Some new) None) none ≡ none
      go true = says
      go false = refl
  at_pushed new says (i ∷ is) = go (i.slot == slot) (at_pushed new says is)
    where
      go : (b : Bool) → at_slot none f (is ++ new ∷ []) slot ≡ at_slot none f is slot
          → option_map_or f (cond b (Some i) (find (λ (j : Instance). j.slot == slot) (is ++ new ∷ []))) none ≡ option_map_or f (cond b (Some i) (find (λ (j : Instance). j.slot == slot) is)) none
      go true later = refl
      go false later = later

  pub at_kept : (p : Instance → Bool) (is : List Instance) → are_apart (map slot_in is) ≡ true → ((i : Instance) → Contains is i → p i ≡ false → f i ≡ none) → at_slot none f (filter p is) slot ≡ at_slot none f is slot
  at_kept p [] apart silent = refl
  at_kept p (i ∷ is) apart silent = go (p i) (i.slot == slot) refl refl (at_kept p is parts.1 (λ j h. silent j (in_rest i is j h)))
    where
      parts : (not (has (map slot_in is) i.slot) ≡ true) × (are_apart (map slot_in is) ≡ true)
      parts = and_parts (not (has (map slot_in is) i.slot)) (are_apart (map slot_in is)) apart

      go : (k b : Bool) → p i ≡ k → (i.slot == slot) ≡ b → at_slot none f (filter p is) slot ≡ at_slot none f is slot
          → at_slot none f (cond k (i ∷ filter p is) (filter p is)) slot ≡ option_map_or f (cond b (Some i) (find (λ (j : Instance). j.slot == slot) is)) none
      go true true on its later = ap (λ b. option_map_or f (cond b (Some i) (find (λ (j : Instance). j.slot == slot) (filter p is))) none) its
      go true false on other later = ap (λ b. option_map_or f (cond b (Some i) (find (λ (j : Instance). j.slot == slot) (filter p is))) none) other ∙ later
      go false true off its later = later ∙ none_at is (ap (has (map slot_in is)) (sym (eqb-true i.slot slot its)) ∙ not_true (has (map slot_in is) i.slot) parts.0) ∙ sym (silent i (in_first i is) off)
      go false false off other later = later

-- whether the gate of a slot is among those of instances
none_among : (q : Instance → Bool) (slot : ℕ) (is : List Instance) → has (map slot_in is) slot ≡ false → list_any (λ (key : GateKey). key.slot == slot) (map gate_of (filter q is)) ≡ false
none_among q slot [] free = refl
none_among q slot (i ∷ is) free = go (q i) (i.slot == slot) refl free (none_among q slot is)
  where
    go : (k b : Bool) → (i.slot == slot) ≡ b → (b || has (map slot_in is) slot) ≡ false → (has (map slot_in is) slot ≡ false → list_any (λ (key : GateKey). key.slot == slot) (map gate_of (filter q is)) ≡ false)
        → list_any (λ (key : GateKey). key.slot == slot) (map gate_of (cond k (i ∷ filter q is) (filter q is))) ≡ false
    go k true its h later = cc
    go true false other h later = ap (λ b. b || list_any (λ (key : GateKey). key.slot == slot) (map gate_of (filter q is))) other ∙ later h
    go false false other h later = later h

pub among_gates : (q : Instance → Bool) (slot : ℕ) (is : List Instance) → are_apart (map slot_in is) ≡ true → list_any (λ (key : GateKey). key.slot == slot) (map gate_of (filter q is)) ≡ at_slot false q is slot
among_gates q slot [] apart = refl
among_gates q slot (i ∷ is) apart = go (q i) (i.slot == slot) refl refl (among_gates q slot is parts.1)
  where
    parts : (not (has (map slot_in is) i.slot) ≡ true) × (are_apart (map slot_in is) ≡ true)
    parts = and_parts (not (has (map slot_in is) i.slot)) (are_apart (map slot_in is)) apart

    none_later : (i.slot == slot) ≡ true → list_any (λ (key : GateKey). key.slot == slot) (map gate_of (filter q is)) ≡ false
    none_later its = none_among q slot is (ap (has (map slot_in is)) (sym (eqb-true i.slot slot its)) ∙ not_true (has (map slot_in is) i.slot) parts.0)

    go : (k b : Bool) → q i ≡ k → (i.slot == slot) ≡ b → list_any (λ (key : GateKey). key.slot == slot) (map gate_of (filter q is)) ≡ at_slot false q is slot
        → list_any (λ (key : GateKey). key.slot == slot) (map gate_of (cond k (i ∷ filter q is) (filter q is))) ≡ option_map_or q (cond b (Some i) (find (λ (j : Instance). j.slot == slot) is)) false
    go true true on its later = ap (λ b. b || list_any (λ (key : GateKey). key.slot == slot) (map gate_of (filter q is))) its ∙ sym on
    go true false on other later = ap (λ b. b || list_any (λ (key : GateKey). key.slot == slot) (map gate_of (filter q is))) other ∙ later
    go false true off its later = none_later its ∙ sym off
    go false false off other later = later

pub at_nothing : {Y : Type 0} (none : Y) (is : List Instance) (slot : ℕ) → none ≡ at_slot none (λ i. none) is slot
at_nothing {Y = Y} none is slot = go (find (λ (i : Instance). i.slot == slot) is)
  where
    go : (o : Option Instance) → none ≡ option_map_or (λ (i : Instance). none) o none
    go None = refl
    go (Some i) = refl

-- whether one at a slot passes a test
pub any_at : (q : Instance → Bool) (slot : ℕ) (is : List Instance) → are_apart (map slot_in is) ≡ true → list_any (λ (i : Instance). q i && (i.slot == slot)) is ≡ at_slot false q is slot
any_at q slot is apart = go (find (λ (i : Instance). i.slot == slot) is) refl
  where
    at_one : (i : Instance) → Contains is i → i.slot ≡ slot → list_any (λ (j : Instance). q j && (j.slot == slot)) is ≡ q i
    at_one i h its = either_way (list_any (λ (j : Instance). q j && (j.slot == slot)) is) (q i)
        (λ some. let found = any_found (λ (j : Instance). q j && (j.slot == slot)) is some in
        let both = and_parts (q found.0) (found.0.slot == slot) found.2 in
        ap q (sym (one_of slot_in is apart found.0 i found.1 h (eqb-true found.0.slot slot both.1 ∙ sym its))) ∙ both.0)
        (λ on. any_from (λ (j : Instance). q j && (j.slot == slot)) is i h (and_from (q i) (i.slot == slot) on (eq-eqb i.slot slot its)))

    go : (o : Option Instance) → find (λ (i : Instance). i.slot == slot) is ≡ o → list_any (λ (i : Instance). q i && (i.slot == slot)) is ≡ option_map_or q o false
    go None free = elim (cases_Bool (list_any (λ (i : Instance). q i && (i.slot == slot)) is)) [
      | inl some ↦ absurd (let found = any_found (λ (j : Instance). q j && (j.slot == slot)) is some in
          both_ways (found.0.slot == slot) (none_found (λ (j : Instance). j.slot == slot) is found.0 free found.1) (and_parts (q found.0) (found.0.slot == slot) found.2).1)
      | inr none ↦ none
    ]
    go (Some i) is_it = let found = found_was (λ (j : Instance). j.slot == slot) is i is_it in at_one i found.0 (eqb-true i.slot slot found.1)

-- the one that passes a test, of which there is no other, where it is the one at a slot
module _ {Y : Type 0} (none : Y) (f : Instance → Y) (p : Instance → Bool) (slot : ℕ) (is : List Instance) (apart : are_apart (map slot_in is) ≡ true) (only : (i j : Instance) → Contains is i → Contains is j → p i ≡ true → p j ≡ true → i ≡ j) where
  pub first_at : option_map_or (λ (k : Instance). cond (k.slot == slot) (f k) none) (find p is) none ≡ at_slot none (λ (i : Instance). cond (p i) (f i) none) is slot
  first_at = go (find p is) (find (λ (i : Instance). i.slot == slot) is) refl refl
    where
      there : (k i : Instance) → find p is ≡ Some k → find (λ (j : Instance). j.slot == slot) is ≡ Some i → cond (k.slot == slot) (f k) none ≡ cond (p i) (f i) none
      there k i first second = at (k.slot == slot) (p i) refl refl
        where
          passes : Contains is k × (p k ≡ true)
          passes = found_was p is k first

          its : Contains is i × ((i.slot == slot) ≡ true)
          its = found_was (λ (j : Instance). j.slot == slot) is i second

          at : (a b : Bool) → (k.slot == slot) ≡ a → p i ≡ b → cond a (f k) none ≡ cond b (f i) none
          at true true on also = ap f (only k i passes.0 its.0 passes.1 also)
          at true false on off = absurd (both_ways (p i) off (ap p (sym (one_of slot_in is apart k i passes.0 its.0 (eqb-true k.slot slot on ∙ sym (eqb-true i.slot slot its.1)))) ∙ passes.1))
          at false true off on = absurd (both_ways (k.slot == slot) off (ap (λ (j : Instance). j.slot == slot) (only k i passes.0 its.0 passes.1 on) ∙ its.1))
          at false false off also = refl

      go : (o q : Option Instance) → find p is ≡ o → find (λ (i : Instance). i.slot == slot) is ≡ q
          → option_map_or (λ (k : Instance). cond (k.slot == slot) (f k) none) o none ≡ option_map_or (λ (i : Instance). cond (p i) (f i) none) q none
      go None None first second = refl
      go None (Some i) first second = sym (ap (λ b. cond b (f i) none) (none_found p is i first (found_was (λ (j : Instance). j.slot == slot) is i second).0))
      go (Some k) None first second = ap (λ b. cond b (f k) none) (none_found (λ (j : Instance). j.slot == slot) is k second (found_was p is k first).0)
      go (Some k) (Some i) first second = there k i first second

-- at the slot of an instance there is this one
pub at_own : {Y : Type 0} (none : Y) (f : Instance → Y) (is : List Instance) → are_apart (map slot_in is) ≡ true → (i : Instance) → Contains is i → at_slot none f is i.slot ≡ f i
at_own none f is apart i h =
    ap (λ (o : Option Instance). option_map_or f o none)
    (found_is (λ (j : Instance). j.slot == i.slot) is i h (eq-eqb i.slot i.slot refl) (λ j k same. one_of slot_in is apart j i k h (eqb-true j.slot i.slot same)))
