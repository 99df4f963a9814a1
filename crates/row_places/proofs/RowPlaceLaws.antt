-- What a search, a filter and a map make of rows of which one at most passes a test.
use Rattle.std.proofs.Common.{◌≡◌, ◌<◌, ◌≤◌, ℕ, zero, suc, List, [], ◌∷◌, ap, sym, subst, ◌∙◌, refl, cond, arith, Bool, true, false, length, get_or, Option, Some, None, Ok, Err, Result, ◌⊎◌, inl, inr}
use Rattle.std.proofs.Math.ListN.{set}
use Rattle.std.proofs.lemmas.Bool.{cases_lt}
use Rattle.std.proofs.lemmas.Bool.Decides.{nat_tests}
use Rattle.std.specs.Cmp.{nat_cmp_is}
use Rattle.std.specs.Prelude.{◌==◌, map, find, filter, not, slice_get, remove}
use Rattle.std.specs.List.{AllPairs, HoldsAt}
use Rattle.std.specs.List.Sorted.{IsBinarySearchResult, IsNonDecreasingBy, IsPartitionPoint, IsSearchInRange}
use Rattle.std.specs.Ordering.{is_eq, nat_cmp, ordering_index}
use Rattle.std.specs.Result.{result_ok}
use Rattle.std.specs.declared.cmp.Ordering.{Ordering}
use Rattle.std.specs.declared.cmp.Ordering.TheVariants.{Less, Equal, Greater}
use Rattle.row_places.specs.RowPlaces.{NoneOf, OnlyAt, IsOnlyPlace}

module _ {X : Type 0} (test : X → Bool) where
  pub only_within : (k : ℕ) (xs : List X) → OnlyAt test k xs → k < length xs
  only_within k [] h = absurd h
  only_within zero (x ∷ xs) h = omega arith
  only_within (suc k) (x ∷ xs) h = omega (arith, only_within k xs h.1)

  -- the row at the place passes
  pub only_passes : (k : ℕ) (xs : List X) (d : X) → OnlyAt test k xs → test (get_or xs k d) ≡ true
  only_passes k [] d h = absurd h
  only_passes zero (x ∷ xs) d h = h.0
  only_passes (suc k) (x ∷ xs) d h = only_passes k xs d h.1

  pub find_none : (xs : List X) → NoneOf test xs → find test xs ≡ None
  find_none [] h = refl
  find_none (x ∷ xs) h = ap (λ b. cond b (Some x) (find test xs)) h.0 ∙ find_none xs h.1

  -- the row that stands at the place is found
  pub found_at : (k : ℕ) (xs : List X) (x : X) → OnlyAt test k xs → x ≡ get_or xs k x → find test xs ≡ Some x
  found_at k [] x h is = absurd h
  found_at zero (y ∷ ys) x h is = ap (λ b. cond b (Some y) (find test ys)) h.0 ∙ ap Some (sym is)
  found_at (suc k) (y ∷ ys) x h is = ap (λ b. cond b (Some y) (find test ys)) h.0 ∙ found_at k ys x h.1 is

  pub find_only : (k : ℕ) (xs : List X) → OnlyAt test k xs → find test xs ≡ slice_get xs k
  find_only k [] h = absurd h
  find_only zero (x ∷ xs) h = ap (λ b. cond b (Some x) (find test xs)) h.0
  find_only (suc k) (x ∷ xs) h = ap (λ b. cond b (Some x) (find test xs)) h.0 ∙ find_only k xs h.1

  pub filter_none : (xs : List X) → NoneOf test xs → filter (λ x. not (test x)) xs ≡ xs
  filter_none [] h = refl
  filter_none (x ∷ xs) h = ap (λ b. cond (not b) (x ∷ filter (λ x. not (test x)) xs) (filter (λ x. not (test x)) xs)) h.0 ∙ ap (λ ys. x ∷ ys) (filter_none xs h.1)

  pub filter_only : (k : ℕ) (xs : List X) → OnlyAt test k xs → filter (λ x. not (test x)) xs ≡ remove xs k
  filter_only k [] h = absurd h
  filter_only zero (x ∷ xs) h = ap (λ b. cond (not b) (x ∷ filter (λ x. not (test x)) xs) (filter (λ x. not (test x)) xs)) h.0 ∙ filter_none xs h.1
  filter_only (suc k) (x ∷ xs) h = ap (λ b. cond (not b) (x ∷ filter (λ x. not (test x)) xs) (filter (λ x. not (test x)) xs)) h.0 ∙ ap (λ ys. x ∷ ys) (filter_only k xs h.1)

  module _ (f : X → X) where
    pub map_none : (xs : List X) → NoneOf test xs → map (λ x. cond (test x) (f x) x) xs ≡ xs
    map_none [] h = refl
    map_none (x ∷ xs) h = ap (λ b. cond b (f x) x ∷ map (λ x. cond (test x) (f x) x) xs) h.0 ∙ ap (λ ys. x ∷ ys) (map_none xs h.1)

    pub map_only : (k : ℕ) (xs : List X) (d : X) → OnlyAt test k xs → map (λ x. cond (test x) (f x) x) xs ≡ set xs k (f (get_or xs k d))
    map_only k [] d h = absurd h
    map_only zero (x ∷ xs) d h = ap (λ b. cond b (f x) x ∷ map (λ x. cond (test x) (f x) x) xs) h.0 ∙ ap (λ ys. f x ∷ ys) (map_none xs h.1)
    map_only (suc k) (x ∷ xs) d h = ap (λ b. cond b (f x) x ∷ map (λ x. cond (test x) (f x) x) xs) h.0 ∙ ap (λ ys. x ∷ ys) (map_only k xs d h.1)

module _ {X : Type 0} (test other : X → Bool) (agrees : (x : X) → test x ≡ other x) where
  none_agrees : (xs : List X) → NoneOf test xs → NoneOf other xs
  none_agrees [] h = tt
  none_agrees (x ∷ xs) h = (sym (agrees x) ∙ h.0, none_agrees xs h.1)

  only_agrees : (k : ℕ) (xs : List X) → OnlyAt test k xs → OnlyAt other k xs
  only_agrees k [] h = h
  only_agrees zero (x ∷ xs) h = (sym (agrees x) ∙ h.0, none_agrees xs h.1)
  only_agrees (suc k) (x ∷ xs) h = (sym (agrees x) ∙ h.0, only_agrees k xs h.1)

  -- tests that agree find the same row
  pub place_agrees : (o : Option ℕ) (xs : List X) → IsOnlyPlace test o xs → IsOnlyPlace other o xs
  place_agrees None xs h = none_agrees xs h
  place_agrees (Some k) xs h = only_agrees k xs h

none_from_each : {X : Type 0} (test : X → Bool) (xs : List X) → ((k : ℕ) (d : X) → k < length xs → test (get_or xs k d) ≡ false) → NoneOf test xs
none_from_each test [] each = tt
none_from_each test (x ∷ xs) each = (each 0 x (omega arith), none_from_each test xs (λ k d h. each (suc k) d (omega (arith, h))))

-- rows in a strict order R, of which `ord` says where they stand against what is sought: one that isn't before it has only rows after it behind itself
module _ {X : Type 0} (R : X → X → Type 0) (ord : X → Ordering) (behind : (x y : X) → R x y → (ord x ≡ Less → ⊥) → ord y ≡ Greater) where
  abbrev Rising : X → X → Type 0
  Rising x y = ordering_index (ord x) ≤ ordering_index (ord y)

  rises : (x y : X) → R x y → (o : Ordering) → ord x ≡ o → Rising x y
  rises x y r Less e = subst (λ o. ordering_index o ≤ ordering_index (ord y)) (sym e) (omega arith)
  rises x y r Equal e = subst (λ o. ordering_index o ≤ ordering_index (ord y)) (sym e) (subst (λ o. 1 ≤ ordering_index o) (sym (behind x y r (λ l. (cc)))) (omega arith))
  rises x y r Greater e = subst (λ o. ordering_index o ≤ ordering_index (ord y)) (sym e) (subst (λ o. 2 ≤ ordering_index o) (sym (behind x y r (λ l. (cc)))) (omega arith))

  pub all_rise : (xs : List X) → AllPairs R xs → IsNonDecreasingBy (λ y. ordering_index (ord y)) xs
  all_rise xs pairs i j d le within = by_cases (cases_lt i j) where
    by_cases : (i < j) ⊎ (j ≤ i) → ordering_index (ord (get_or xs i d)) ≤ ordering_index (ord (get_or xs j d))
    by_cases (inl lt) = rises (get_or xs i d) (get_or xs j d) (pairs i j d lt within) (ord (get_or xs i d)) refl
    by_cases (inr ge) = let e : i ≡ j = omega (arith, le, ge) in subst (λ k. ordering_index (ord (get_or xs i d)) ≤ ordering_index (ord (get_or xs k d))) e (omega arith)

  abbrev is_it : X → Bool
  is_it x = is_eq (ord x)

  rest_pairs : (x : X) (xs : List X) → AllPairs R (x ∷ xs) → AllPairs R xs
  rest_pairs x xs pairs i j d lt within = pairs (suc i) (suc j) d (omega (arith, lt)) (omega (arith, within))

  isnt : (x : X) (o : Ordering) → ord x ≡ o → (o ≡ Equal → ⊥) → is_it x ≡ false
  isnt x Less e other = ap is_eq e
  isnt x Equal e other = absurd (other refl)
  isnt x Greater e other = ap is_eq e

  before_it : (x y : X) → R x y → ord y ≡ Equal → (o : Ordering) → ord x ≡ o → is_it x ≡ false
  before_it x y r e Less f = ap is_eq f
  before_it x y r e Equal f = let g = behind x y r (λ l. (cc)) in cc
  before_it x y r e Greater f = ap is_eq f

  pub only_found : (i : ℕ) (xs : List X) → AllPairs R xs → i < length xs → HoldsAt (λ y. ord y ≡ Equal) xs i → OnlyAt is_it i xs
  only_found i [] pairs within here = absurd (omega (arith, within))
  only_found zero (x ∷ xs) pairs within here =
      (ap is_eq (here x), none_from_each is_it xs (λ k d h. ap is_eq (behind x (get_or xs k d) (pairs 0 (suc k) d (omega arith) (omega (arith, h))) (λ l. let e = here x in (cc)))))
  only_found (suc i) (x ∷ xs) pairs within here =
      (before_it x (get_or xs i x) (pairs 0 (suc i) x (omega arith) within) (here x) (ord x) refl, only_found i xs (rest_pairs x xs pairs) (omega (arith, within)) here)

  pub none_found : (i : ℕ) (xs : List X) → IsPartitionPoint (λ y. ord y ≡ Less) (λ y. ord y ≡ Greater) xs i → NoneOf is_it xs
  none_found i xs split = none_from_each is_it xs each where
    each : (k : ℕ) (d : X) → k < length xs → is_it (get_or xs k d) ≡ false
    each k d h = by_cases (cases_lt k i) where
      by_cases : (k < i) ⊎ (i ≤ k) → is_it (get_or xs k d) ≡ false
      by_cases (inl lt) = ap is_eq (split.0 k d (omega arith) lt)
      by_cases (inr ge) = ap is_eq (split.1 k d ge h)

  -- what a binary search finds in them
  pub searched : (xs : List X) (r : Result ℕ ℕ) → AllPairs R xs → IsBinarySearchResult ord xs r → IsSearchInRange r (length xs) → IsOnlyPlace is_it (result_ok r) xs
  searched xs (Ok i) pairs found within = only_found i xs pairs within found
  searched xs (Err i) pairs found within = none_found i xs (found (all_rise xs pairs))

-- rows by ascending number
module _ {X : Type 0} (number_of : X → ℕ) where
  abbrev pub Below : X → X → Type 0
  Below x y = number_of x < number_of y

  numbers_agree : (a b : ℕ) → is_eq (nat_cmp a b) ≡ (a == b)
  numbers_agree a b = grind (arith, nat_tests)

  not_less : (a b : ℕ) → (nat_cmp a b ≡ Less → ⊥) → b ≤ a
  not_less a b h = by_cases (cases_lt a b) where
    by_cases : (a < b) ⊎ (b ≤ a) → b ≤ a
    by_cases (inl lt) = absurd (h (sym (nat_cmp_is a b Less lt)))
    by_cases (inr ge) = ge

  pub searched_number : (number : ℕ) (xs : List X) (r : Result ℕ ℕ) → AllPairs Below xs → IsBinarySearchResult (λ x. nat_cmp (number_of x) number) xs r → IsSearchInRange r (length xs)
      → IsOnlyPlace (λ x. number_of x == number) (result_ok r) xs
  searched_number number xs r pairs found within =
      place_agrees (λ x. is_eq (nat_cmp (number_of x) number)) (λ x. number_of x == number) (λ x. numbers_agree (number_of x) number) (result_ok r) xs
      (searched Below (λ x. nat_cmp (number_of x) number) (λ x y below isnt. sym (nat_cmp_is (number_of y) number Greater (omega (arith, not_less (number_of x) number isnt, below)))) xs r pairs found within)
