-- How many have a number, once those of a number are let go, or one more is there; where the only one stands.
use Rattle.std.proofs.Common.{◌≡◌, ◌≤◌, ◌<◌, ℕ, zero, suc, ◌+◌, List, [], ◌∷◌, ◌++◌, ap, sym, ◌∙◌, refl, subst, cond, Bool, true, false, Some, None, length, get_or, arith}
use Rattle.std.specs.Prelude.{◌==◌, filter, insert, map, not, remove}
use Rattle.std.specs.List.{count_by, position, position_or_len, sum_by}
use Rattle.std.proofs.lemmas.Bool.{eqb-true, ne_eqb}
use Rattle.std.proofs.lemmas.Grind.{common_steps}
use Rattle.std.proofs.lemmas.List.Quantifiers.{position-Some}
use Rattle.std.proofs.lemmas.List.Sums.{fails_before_first, sum_by-append, sum_by-cons}
use Rattle.prop_map.specs.Words.{one_if}
use Rattle.row_places.specs.RowPlaces.{NoneOf, OnlyAt}

count_step : {X : Type 0} (test : X → Bool) (x : X) (xs : List X) → count_by test (x ∷ xs) ≡ cond (test x) 1 0 + count_by test xs
count_step test x xs = sum_by-cons (λ y. cond (test y) 1 0) x xs

module _ {X : Type 0} (test : X → Bool) where
  from_each : (xs : List X) → ((k : ℕ) (d : X) → k < length xs → test (get_or xs k d) ≡ false) → NoneOf test xs
  from_each [] each = tt
  from_each (x ∷ xs) each = (each 0 x (omega arith), from_each xs (λ k d h. each (suc k) d (omega (arith, h))))

  pub none_placed : (xs : List X) → position test xs ≡ None → NoneOf test xs
  none_placed xs e = from_each xs (λ k d h. let behind : length xs ≤ position_or_len test xs = grind (arith, common_steps) in fails_before_first test xs k d (omega (arith, h, behind)))

  none_counted : (xs : List X) → count_by test xs ≡ 0 → NoneOf test xs
  none_counted [] none = tt
  none_counted (x ∷ xs) none = go (test x) refl (sym (count_step test x xs) ∙ none) (none_counted xs)
    where
      go : (b : Bool) → test x ≡ b → cond b 1 0 + count_by test xs ≡ 0 → (count_by test xs ≡ 0 → NoneOf test xs) → (test x ≡ false) × NoneOf test xs
      go true here some rest = absurd (omega (arith, some))
      go false other some rest = (other, rest (omega (arith, some)))

  pub count_none : (xs : List X) → NoneOf test xs → count_by test xs ≡ 0
  count_none [] none = refl
  count_none (x ∷ xs) none =
      let step = count_step test x xs in
      let first : cond (test x) 1 0 ≡ 0 = ap one_if none.0 in
      let rest = count_none xs none.1 in omega (arith, step, first, rest)

  count_some : (xs : List X) (k : ℕ) (d : X) → k < length xs → test (get_or xs k d) ≡ true → 0 < count_by test xs
  count_some [] k d within here = absurd (omega (arith, within))
  count_some (x ∷ xs) zero d within here =
      let step = count_step test x xs in
      let first : cond (test x) 1 0 ≡ 1 = ap one_if here in omega (arith, step, first)
  count_some (x ∷ xs) (suc k) d within here =
      let step = count_step test x xs in
      let rest = count_some xs k d (omega (arith, within)) here in omega (arith, step, rest)

  only_counted : (xs : List X) (k : ℕ) (d : X) → k < length xs → test (get_or xs k d) ≡ true → count_by test xs ≤ 1 → OnlyAt test k xs
  only_counted [] k d within here one = absurd (omega (arith, within))
  only_counted (x ∷ xs) zero d within here one =
      let step = count_step test x xs in
      let first : cond (test x) 1 0 ≡ 1 = ap one_if here in (here, none_counted xs (omega (arith, step, first, one)))
  only_counted (x ∷ xs) (suc k) d within here one =
      go (test x) refl (subst (λ n. n ≤ 1) (count_step test x xs) one) (count_some xs k d (omega (arith, within)) here) (only_counted xs k d (omega (arith, within)) here)
    where
      go : (b : Bool) → test x ≡ b → cond b 1 0 + count_by test xs ≤ 1 → 0 < count_by test xs → (count_by test xs ≤ 1 → OnlyAt test k xs) → (test x ≡ false) × OnlyAt test k xs
      go true this more some rest = absurd (omega (arith, some, more))
      go false other more some rest = (other, rest (omega (arith, more)))

  -- where one at most passes, the first one that does is the only one
  pub only_placed : (xs : List X) (k : ℕ) → position test xs ≡ Some k → count_by test xs ≤ 1 → OnlyAt test k xs
  only_placed [] k is one = cc
  only_placed (x ∷ xs) k is one = let first = position-Some test (x ∷ xs) k x is in only_counted (x ∷ xs) k x first.0 first.1 one

  -- one passes, so there is a first one
  pub some_placed : (xs : List X) → 0 < count_by test xs → position test xs ≡ None → ⊥
  some_placed xs some none = let all = count_none xs (none_placed xs none) in omega (arith, some, all)

-- what is taken out and put into its place again
pub put_back : {X : Type 0} (xs : List X) (k : ℕ) (d : X) → k < length xs → insert (remove xs k) k (get_or xs k d) ≡ xs
put_back [] k d within = absurd (omega (arith, within))
put_back (x ∷ xs) zero d within = refl
put_back (x ∷ xs) (suc k) d within = ap (λ ys. x ∷ ys) (put_back xs k d (omega (arith, within)))

module _ {X : Type 0} (key : X → ℕ) where
  -- none is left of those that are let go
  pub left_none : (k : ℕ) (xs : List X) → count_by (λ x. key x == k) (filter (λ x. not (key x == k)) xs) ≡ 0
  left_none k [] = refl
  left_none k (x ∷ xs) = go (key x == k) refl (left_none k xs)
    where
      rest : List X
      rest = filter (λ y. not (key y == k)) xs

      go : (b : Bool) → (key x == k) ≡ b → count_by (λ y. key y == k) rest ≡ 0 → count_by (λ y. key y == k) (cond (not b) (x ∷ rest) rest) ≡ 0
      go true here later = later
      go false other later =
          let step = count_step (λ (y : X). key y == k) x rest in
          let first : cond (key x == k) 1 0 ≡ 0 = ap one_if other in omega (arith, step, first, later)

  -- of others as many
  pub left_same : (k n : ℕ) → (k ≡ n → ⊥) → (xs : List X) → count_by (λ x. key x == n) (filter (λ x. not (key x == k)) xs) ≡ count_by (λ x. key x == n) xs
  left_same k n differ [] = refl
  left_same k n differ (x ∷ xs) = go (key x == k) refl (left_same k n differ xs)
    where
      rest : List X
      rest = filter (λ y. not (key y == k)) xs

      go : (b : Bool) → (key x == k) ≡ b → count_by (λ y. key y == n) rest ≡ count_by (λ y. key y == n) xs → count_by (λ y. key y == n) (cond (not b) (x ∷ rest) rest) ≡ count_by (λ y. key y == n) (x ∷ xs)
      go true here later =
          let step = count_step (λ (y : X). key y == n) x xs in
          let first : cond (key x == n) 1 0 ≡ 0 = ap one_if (ne_eqb (key x) n (λ same. differ (sym (eqb-true (key x) k here) ∙ same))) in omega (arith, step, first, later)
      go false other later =
          let step = count_step (λ (y : X). key y == n) x xs in
          let again = count_step (λ (y : X). key y == n) x rest in omega (arith, step, again, later)

  pub one_more : (xs : List X) (x : X) (n : ℕ) → count_by (λ y. key y == n) (xs ++ x ∷ []) ≡ count_by (λ y. key y == n) xs + one_if (key x == n)
  one_more xs x n =
      sum_by-append (λ y. cond (key y == n) 1 0) xs (x ∷ [])
      ∙ ap (λ k. count_by (λ y. key y == n) xs + k) (let one : sum_by (λ y. cond (key y == n) 1 0) (x ∷ []) ≡ one_if (key x == n) = omega arith in one)

  -- where each keeps its number
  pub same_count : (f : X → X) → ((x : X) → key (f x) ≡ key x) → (xs : List X) (n : ℕ) → count_by (λ x. key x == n) (map f xs) ≡ count_by (λ x. key x == n) xs
  same_count f same [] n = refl
  same_count f same (x ∷ xs) n =
      let step = count_step (λ (y : X). key y == n) x xs in
      let mapped = count_step (λ (y : X). key y == n) (f x) (map f xs) in
      let first : cond (key (f x) == n) 1 0 ≡ cond (key x == n) 1 0 = ap (λ k. one_if (k == n)) (same x) in
      let rest = same_count f same xs n in omega (arith, step, mapped, first, rest)

  -- numbers counted by themselves
  pub count_mapped : (xs : List X) (n : ℕ) → count_by (λ k. k == n) (map key xs) ≡ count_by (λ x. key x == n) xs
  count_mapped [] n = refl
  count_mapped (x ∷ xs) n =
      count_step (λ k. k == n) (key x) (map key xs)
      ∙ ap (λ k. cond (key x == n) 1 0 + k) (count_mapped xs n)
      ∙ sym (count_step (λ (y : X). key y == n) x xs)
