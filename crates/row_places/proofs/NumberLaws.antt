-- Rows by ascending number: a row in the place of the one of its number, or where it belongs, and that this undoes a change of one row.
use Rattle.std.proofs.Common.{◌≡◌, ◌<◌, ◌≤◌, ◌⊎◌, inl, inr, ℕ, suc, List, [], ◌∷◌, ap, sym, subst, ◌∙◌, refl, cond, arith, Bool, true, false, length, get_or, Option, Some, None, Ok, Err, Result}
use Rattle.std.proofs.Math.ListN.{set}
use Rattle.std.proofs.lemmas.Bool.{cases_lt, ne_eqb}
use Rattle.std.proofs.lemmas.Bool.Decides.{nat_tests}
use Rattle.std.proofs.lemmas.List.{set-get_or}
use Rattle.std.proofs.lemmas.List.Elements.{All-cons, All-filter, filter_agree}
use Rattle.std.specs.Cmp.{IsTotalOrder, nat_cmp_is, nat_cmp_total, on_total, ranked}
use Rattle.std.specs.List.{All, AllPairs}
use Rattle.std.specs.List.Sorted.{IsBinarySearchResult, IsSearchInRange}
use Rattle.std.specs.Ordering.{is_eq, is_lt, nat_cmp}
use Rattle.std.specs.Prelude.{◌==◌, filter, find, insert, not}
use Rattle.std.specs.declared.cmp.Ordering.{Ordering}
use Rattle.std.specs.declared.cmp.Ordering.TheVariants.{Less, Equal, Greater}
use Rattle.prop_map.specs.Words.{insert_by}
use Rattle.row_places.specs.RowPlaces.{IsPlaceOrGap, NoneOf, OnlyAt}
use Rattle.row_places.proofs.RowOrderLaws as order
use Rattle.row_places.proofs.RowPlaceLaws.{all_rise, none_found, only_found, place_agrees}

tests_agree : (a b : ℕ) → is_eq (nat_cmp a b) ≡ (a == b)
tests_agree a b = grind (arith, nat_tests)

pub numbers_tell : (a b : ℕ) → (a == b) ≡ true → a ≡ b
numbers_tell a b e = grind (arith, nat_tests)

module _ {X : Type 0} (number_of : X → ℕ) where
  abbrev Rising : List X → Type 0
  Rising xs = AllPairs (λ x y. number_of x < number_of y) xs

  abbrev by_number : X → X → Ordering
  by_number x y = nat_cmp (number_of x) (number_of y)

  abbrev lower : X → X → Bool
  lower x y = is_lt (by_number x y)

  abbrev has : ℕ → X → Bool
  has n x = number_of x == n

  abbrev without : ℕ → List X → List X
  without n xs = filter (λ x. not (has n x)) xs

  -- a row in the place of the one of its number, or where it belongs
  abbrev put : X → List X → List X
  put y xs = insert_by lower y (without (number_of y) xs)

  abbrev place_or_gap : ℕ → Result ℕ ℕ → List X → Type 0
  place_or_gap n r xs = IsPlaceOrGap (λ x. nat_cmp (number_of x) n) r xs

  total : IsTotalOrder by_number
  total = on_total number_of nat_cmp_total

  precede : (xs : List X) → Rising xs → AllPairs (λ x y. by_number x y ≡ Less) xs
  precede xs pairs i j d less within = sym (nat_cmp_is (number_of (get_or xs i d)) (number_of (get_or xs j d)) Less (pairs i j d less within))

  rises : (xs : List X) → AllPairs (λ x y. by_number x y ≡ Less) xs → Rising xs
  rises xs pairs i j d less within = ranked (number_of (get_or xs i d)) (number_of (get_or xs j d)) Less (sym (pairs i j d less within))

  not_less : (a b : ℕ) → (nat_cmp a b ≡ Less → ⊥) → b ≤ a
  not_less a b h = by_cases (cases_lt a b) where
    by_cases : (a < b) ⊎ (b ≤ a) → b ≤ a
    by_cases (inl lt) = absurd (h (sym (nat_cmp_is a b Less lt)))
    by_cases (inr ge) = ge

  abbrev Below : X → X → Type 0
  Below x y = number_of x < number_of y

  behind : (n : ℕ) (x y : X) → Below x y → (nat_cmp (number_of x) n ≡ Less → ⊥) → nat_cmp (number_of y) n ≡ Greater
  behind n x y below isnt = sym (nat_cmp_is (number_of y) n Greater (omega (arith, not_less (number_of x) n isnt, below)))

  -- what a search by number finds
  pub placed_by : (n : ℕ) (xs : List X) (r : Result ℕ ℕ) → Rising xs → IsBinarySearchResult (λ x. nat_cmp (number_of x) n) xs r → IsSearchInRange r (length xs) → place_or_gap n r xs
  placed_by n xs (Ok k) pairs found within = only_found Below (λ x. nat_cmp (number_of x) n) (behind n) k xs pairs within found
  placed_by n xs (Err i) pairs found within = (within, found (all_rise Below (λ x. nat_cmp (number_of x) n) (behind n) xs pairs))

  pub only_has : (n k : ℕ) (xs : List X) → place_or_gap n (Ok k) xs → OnlyAt (has n) k xs
  only_has n k xs only = place_agrees (λ x. is_eq (nat_cmp (number_of x) n)) (has n) (λ x. tests_agree (number_of x) n) (Some k) xs only

  pub none_has : (n gap : ℕ) (xs : List X) → place_or_gap n (Err gap) xs → NoneOf (has n) xs
  none_has n gap xs at = place_agrees (λ x. is_eq (nat_cmp (number_of x) n)) (has n) (λ x. tests_agree (number_of x) n) None xs (none_found Below (λ x. nat_cmp (number_of x) n) (behind n) gap xs at.1)

  module _ (y : X) where
    ties : by_number y y ≡ Equal
    ties = sym (nat_cmp_is (number_of y) (number_of y) Equal refl)

    abbrev is_sought : X → Bool
    is_sought x = is_eq (by_number x y)

    as_sought : (xs : List X) → put y xs ≡ insert_by lower y (filter (λ x. not (is_sought x)) xs)
    as_sought xs = ap (insert_by lower y) (filter_agree (λ x. not (has (number_of y) x)) (λ x. not (is_sought x)) (λ x. ap not (sym (tests_agree (number_of x) (number_of y)))) xs)

    pub put_there : (place : ℕ) (xs : List X) → Rising xs → place_or_gap (number_of y) (Ok place) xs → set xs place y ≡ put y xs
    put_there place xs pairs only = sym (as_sought xs ∙ order.exchanged by_number total y y ties place xs (precede xs pairs) only)

    pub put_new : (gap : ℕ) (xs : List X) → place_or_gap (number_of y) (Err gap) xs → insert xs gap y ≡ put y xs
    put_new gap xs at = sym (as_sought xs ∙ order.inserted by_number total y y ties gap xs at)

    pub rising_with : (xs : List X) → Rising xs → Rising (put y xs)
    rising_with xs pairs = rises (put y xs) (subst (λ l. AllPairs (λ x z. by_number x z ≡ Less) l) (sym (as_sought xs)) (order.ordered_with by_number total y y ties xs (precede xs pairs)))

    all_insert : (P : X → Type 0) (xs : List X) → P y → All P xs → All P (insert_by lower y xs)
    all_insert P [] py all = All-cons P y [] py all
    all_insert P (x ∷ xs) py all = by_test (all_insert P xs py (λ k d within. all (suc k) d (omega (arith, within)))) (lower y x) where
      by_test : All P (insert_by lower y xs) → (b : Bool) → All P (cond b (y ∷ x ∷ xs) (x ∷ insert_by lower y xs))
      by_test more true = All-cons P y (x ∷ xs) py all
      by_test more false = All-cons P x (insert_by lower y xs) (all 0 x (omega arith)) more

    pub all_with : (P : X → Type 0) (xs : List X) → P y → All P xs → All P (put y xs)
    all_with P xs py all = all_insert P (without (number_of y) xs) py (All-filter (λ x. not (has (number_of y) x)) P xs all)

  -- the row of a number stands at one place
  pub record StandsIn (n : ℕ) (xs : List X) (y : X) : Type 0 where
    pub place : ℕ
    pub only : OnlyAt (λ x. is_eq (nat_cmp (number_of x) n)) place xs
    pub is : y ≡ get_or xs place y
    pub number : number_of y ≡ n

  abbrev row_or : X → Option X → X
  row_or d None = d
  row_or d (Some x) = x

  none_above : (n : ℕ) (xs : List X) → All (λ x. n < number_of x) xs → NoneOf (λ x. is_eq (nat_cmp (number_of x) n)) xs
  none_above n [] above = tt
  none_above n (x ∷ xs) above =
      (tests_agree (number_of x) n ∙ ne_eqb (number_of x) n (λ e. omega (arith, e, above 0 x (omega arith))), none_above n xs (λ k d within. above (suc k) d (omega (arith, within))))

  pub stands : (n : ℕ) (xs : List X) (y : X) → Rising xs → find (has n) xs ≡ Some y → StandsIn n xs y
  stands n [] y pairs e = absurd (none e) where
    none : None ≡ Some y → ⊥
    none h = cc
  stands n (x ∷ xs) y pairs e = by_test (has n x) refl (λ f. stands n xs y (λ i j d less within. pairs (suc i) (suc j) d (omega (arith, less)) (omega (arith, within))) f) where
    by_test : (b : Bool) → has n x ≡ b → (find (has n) xs ≡ Some y → StandsIn n xs y) → StandsIn n (x ∷ xs) y
    by_test true t more = let same : x ≡ y = ap (row_or y) (sym (ap (λ b. cond b (Some x) (find (has n) xs)) t) ∙ e) in
        let its : number_of x ≡ n = numbers_tell (number_of x) n t in record {
          place = 0;
          only = (tests_agree (number_of x) n ∙ t, none_above n xs (λ k d within. let above : number_of x < number_of (get_or xs k d) = pairs 0 (suc k) d (omega arith) (omega (arith, within)) in omega (arith, its, above)));
          is = sym same;
          number = ap number_of (sym same) ∙ its;
        }
    by_test false t more = let there = more (sym (ap (λ b. cond b (Some x) (find (has n) xs)) t) ∙ e) in
        record { place = suc there.place; only = (tests_agree (number_of x) n ∙ t, there.only); is = there.is; number = there.number }

  -- where the others are as they were, the row of the number makes the rows what they were
  pub put_back : (y : X) (now before : List X) → Rising before → find (has (number_of y)) before ≡ Some y → without (number_of y) now ≡ without (number_of y) before → put y now ≡ before
  put_back y now before pairs there others =
      let s = stands (number_of y) before y pairs there in
      ap (insert_by lower y) others ∙ sym (put_there y s.place before pairs s.only) ∙ ap (set before s.place) s.is ∙ set-get_or before s.place y

  pub without_twice : (n : ℕ) (xs : List X) → without n (without n xs) ≡ without n xs
  without_twice n [] = refl
  without_twice n (x ∷ xs) = by_test (has n x) refl (without_twice n xs) where
    by_test : (b : Bool) → has n x ≡ b → without n (without n xs) ≡ without n xs
        → without n (cond (not (has n x)) (x ∷ without n xs) (without n xs)) ≡ cond (not (has n x)) (x ∷ without n xs) (without n xs)
    by_test true t more = ap (λ b. without n (cond (not b) (x ∷ without n xs) (without n xs))) t ∙ more ∙ sym (ap (λ b. cond (not b) (x ∷ without n xs) (without n xs)) t)
    by_test false t more =
        ap (λ b. without n (cond (not b) (x ∷ without n xs) (without n xs))) t ∙ ap (λ b. cond (not b) (x ∷ without n (without n xs)) (without n (without n xs))) t
        ∙ ap (λ ys. x ∷ ys) more ∙ sym (ap (λ b. cond (not b) (x ∷ without n xs) (without n xs)) t)

  -- a row that was taken out, put back
  pub taken_back : (y : X) (before : List X) → Rising before → find (has (number_of y)) before ≡ Some y → put y (without (number_of y) before) ≡ before
  taken_back y before pairs there = put_back y (without (number_of y) before) before pairs there (without_twice (number_of y) before)
