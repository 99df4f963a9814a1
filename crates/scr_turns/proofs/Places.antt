-- The place of the one item of a list that passes a test.
use Rattle.std.proofs.Common.{◌≡◌, ◌<◌, ◌≤◌, ◌⊎◌, inl, inr, ℕ, zero, suc, List, [], ◌∷◌, Bool, true, false, Some, None, length, get_or, ap, cond, sym, ◌∙◌, refl, arith, ◌++◌}
use Rattle.std.specs.Prelude.{◌==◌, ◌||◌, filter, map, not, remove}
use Rattle.std.specs.List.{position, position_or_len}
use Rattle.std.proofs.lemmas.Bool.{and_parts, both_ways, cases_Bool}
use Rattle.std.proofs.lemmas.Grind.{common_steps}
use Rattle.std.proofs.lemmas.List.Sums.{fails_before_first}
use Rattle.std.proofs.lemmas.List.Quantifiers.{position-Some}
use Rattle.component_state.specs.Inside.Ready.{are_apart}
use Rattle.component_state.proofs.Apart.{in_first, key_in, not_true}
use Rattle.prop_map.specs.Words.{has}
use Rattle.row_places.specs.RowPlaces.{NoneOf, OnlyAt}
use Rattle.row_places.proofs.RowPlaceLaws.{filter_none, filter_only}
use Rattle.std.proofs.lemmas.List.{length-append}

module _ {X : Type 0} (test : X → Bool) where
  pub from_each : (xs : List X) → ((k : ℕ) (d : X) → k < length xs → test (get_or xs k d) ≡ false) → NoneOf test xs
  from_each [] each = tt
  from_each (x ∷ xs) each = (each 0 x (omega arith), from_each xs (λ k d h. each (suc k) d (omega (arith, h))))

  pub none_placed : (xs : List X) → position test xs ≡ None → NoneOf test xs
  none_placed xs e = from_each xs (λ k d h. let behind : length xs ≤ position_or_len test xs = grind (arith, common_steps) in fails_before_first test xs k d (omega (arith, h, behind)))

  -- items whose numbers differ, where what passes has one number
  module _ (key : X → ℕ) (n : ℕ) (keyed_by : (x : X) → test x ≡ true → key x ≡ n) where
    none_other : (x : X) (xs : List X) → test x ≡ true → has (map key xs) (key x) ≡ false → NoneOf test xs
    none_other x [] here apart = tt
    none_other x (y ∷ ys) here apart = (off (cases_Bool (test y)), none_other x ys here (rest (key y == key x) refl))
      where
        off : (test y ≡ true) ⊎ (test y ≡ false) → test y ≡ false
        off (inr is) = is
        off (inl is) = absurd (both_ways (has (map key (y ∷ ys)) (key x)) apart (ap (has (map key (y ∷ ys))) (keyed_by x here ∙ sym (keyed_by y is)) ∙ key_in key (y ∷ ys) y (in_first y ys)))

        rest : (b : Bool) → (key y == key x) ≡ b → has (map key ys) (key x) ≡ false
        rest true e = absurd (both_ways (has (map key (y ∷ ys)) (key x)) apart (ap (λ b. b || has (map key ys) (key x)) e))
        rest false e = sym (ap (λ b. b || has (map key ys) (key x)) e) ∙ apart

    only_from : (xs : List X) (k : ℕ) → are_apart (map key xs) ≡ true → k < length xs → ((d : X) → test (get_or xs k d) ≡ true) → ((j : ℕ) → j < k → (d : X) → test (get_or xs j d) ≡ false) → OnlyAt test k xs
    only_from [] k apart within here before = absurd (omega (arith, within))
    only_from (x ∷ xs) zero apart within here before =
        let parts = and_parts (not (has (map key xs) (key x))) (are_apart (map key xs)) apart in
        (here x, none_other x xs (here x) (not_true (has (map key xs) (key x)) parts.0))
    only_from (x ∷ xs) (suc k) apart within here before =
        let parts = and_parts (not (has (map key xs) (key x))) (are_apart (map key xs)) apart in
        (before 0 (omega arith) x, only_from xs k parts.1 (omega (arith, within)) here (λ j lt d. before (suc j) (omega (arith, lt)) d))

    pub only_placed : (xs : List X) (k : ℕ) → are_apart (map key xs) ≡ true → position test xs ≡ Some k → X → OnlyAt test k xs
    only_placed xs k apart e x = only_from xs k apart (position-Some test xs k x e).0 (λ d. (position-Some test xs k d e).1) (λ j lt d. (position-Some test xs k d e).2 j lt)

    -- without the one that passes
    pub removed_placed : (xs : List X) (k : ℕ) → are_apart (map key xs) ≡ true → position test xs ≡ Some k → remove xs k ≡ filter (λ x. not (test x)) xs
    removed_placed [] k apart e = cc
    removed_placed (x ∷ xs) k apart e = sym (filter_only test k (x ∷ xs) (only_placed (x ∷ xs) k apart e x))

    none_left : (xs : List X) → NoneOf test xs → filter test xs ≡ []
    none_left [] none = refl
    none_left (x ∷ xs) none = ap (λ b. cond b (x ∷ filter test xs) (filter test xs)) none.0 ∙ none_left xs none.1

    -- one at most passes
    pub one_left : (xs : List X) → are_apart (map key xs) ≡ true → length (filter test xs) ≤ 1
    one_left [] apart = omega arith
    one_left (x ∷ xs) apart = go (one_left xs parts.1) (test x) refl
      where
        parts : (not (has (map key xs) (key x)) ≡ true) × (are_apart (map key xs) ≡ true)
        parts = and_parts (not (has (map key xs) (key x))) (are_apart (map key xs)) apart

        go : length (filter test xs) ≤ 1 → (b : Bool) → test x ≡ b → length (cond b (x ∷ filter test xs) (filter test xs)) ≤ 1
        go later true e = let none = ap (λ (ys : List X). length ys) (none_left xs (none_other x xs e (not_true (has (map key xs) (key x)) parts.0))) in omega (arith, none)
        go later false e = later

  pub kept_placed : (xs : List X) → position test xs ≡ None → xs ≡ filter (λ x. not (test x)) xs
  kept_placed xs e = sym (filter_none test xs (none_placed xs e))

-- what stands behind nothing, in a list of one at most
pub last_of_one : {X : Type 0} (rest : List X) (x : X) (xs : List X) → xs ≡ rest ++ x ∷ [] → length xs ≤ 1 → x ∷ [] ≡ xs
last_of_one [] x xs e low = sym e
last_of_one {X = X} (y ∷ rest) x xs e low =
    let long = ap (λ (zs : List X). length zs) e in let more = length-append rest (x ∷ []) in absurd (omega (arith, long, more, low))

pub none_of_none : {X : Type 0} (xs : List X) → length xs ≡ 0 → [] ≡ xs
none_of_none [] e = refl
none_of_none (x ∷ xs) e = absurd (omega (arith, e))
