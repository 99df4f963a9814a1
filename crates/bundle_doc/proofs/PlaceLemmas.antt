-- Places of texts that pass a test, found among keys in any order.
use Rattle.std.proofs.Common.{◌≡◌, ◌<◌, ◌≤◌, ℕ, suc, ◌+◌, List, [], ◌∷◌, length, get_or, ap, sym, ◌∙◌, refl, Bool, true, false, cond, ◌&&◌, arith, subst, eqb, Some}
use Rattle.std.specs.Prelude.{◌==◌, map}
use Rattle.std.specs.List.{filter, filter_map, cons_option, slice_get, sum_by}
use Rattle.std.specs.Cmp.Lexicographic.{slice_cmp}
use Rattle.std.specs.List.Sorted.{IsPermutation, IsSorted}
use Rattle.std.specs.Ordering.{is_lt, nat_cmp, ordering_then}
use Rattle.std.specs.declared.cmp.Ordering.{Ordering}
use Rattle.std.specs.declared.cmp.Ordering.TheVariants.{Less, Equal, Greater}
use Rattle.std.proofs.lemmas.Bool.{eqb-true, eq-eqb, and_right}
use Rattle.std.proofs.lemmas.List.Recursion.{is_count_by}
use Rattle.std.proofs.lemmas.List.Sorted.{IsNonDecreasingBy-from_sort, sum_by-IsPermutation}
use Rattle.bundle_doc.specs.Inside.{HasAll, IsOrder, count, passes, placed, places_of, read_from}
use Rattle.bundle_doc.specs.declared.entries_by_end.End.{End}
use Rattle.ldap_filter.specs.Matching.{begins}

-- ---- how many

pub count_moved : {X : Type 0} (test : X → Bool) (xs ys : List X) → IsPermutation xs ys → count test ys ≡ count test xs
count_moved {X} test xs ys moved = as_sum ys ∙ sum_by-IsPermutation (λ x. cond (test x) 1 0) xs ys moved ∙ sym (as_sum xs) where
  as_sum : (zs : List X) → count test zs ≡ sum_by (λ x. cond (test x) 1 0) zs
  as_sum zs = is_count_by (count test) test refl (λ w ws. ap (λ n. cond (test w) n (count test ws)) {x = suc (count test ws)} {y = 1 + count test ws} (omega arith)) zs

pub count_filter : {X : Type 0} (test kept : X → Bool) (xs : List X) → count test (filter kept xs) ≡ count (λ x. kept x && test x) xs
count_filter test kept [] = refl
count_filter test kept (x ∷ xs) = by_test (kept x) (count_filter test kept xs) where
  by_test : (b : Bool) → count test (filter kept xs) ≡ count (λ y. kept y && test y) xs
      → count test (cond b (x ∷ filter kept xs) (filter kept xs)) ≡ cond (b && test x) (suc (count (λ y. kept y && test y) xs)) (count (λ y. kept y && test y) xs)
  by_test true rest = ap (λ n. cond (test x) (suc n) n) rest
  by_test false rest = rest

pub count_map : {X Y : Type 0} (test : Y → Bool) (f : X → Y) (xs : List X) → count test (map f xs) ≡ count (λ x. test (f x)) xs
count_map test f [] = refl
count_map test f (x ∷ xs) = ap (λ n. cond (test (f x)) (suc n) n) (count_map test f xs)

-- ---- places among keys

-- texts stand in a list from a place on
abbrev From : List (List ℕ) → ℕ → List (List ℕ) → Type 0
From all n texts = (i : ℕ) → slice_get all (n + i) ≡ slice_get texts i

here : (all : List (List ℕ)) (n : ℕ) (t : List ℕ) (texts : List (List ℕ)) → From all n (t ∷ texts) → slice_get all n ≡ Some t
here all n t texts from = ap (slice_get all) {x = n} {y = n + 0} (omega arith) ∙ from 0

onward : (all : List (List ℕ)) (n : ℕ) (t : List ℕ) (texts : List (List ℕ)) → From all n (t ∷ texts) → From all (suc n) texts
onward all n t texts from i = ap (slice_get all) {x = suc n + i} {y = n + suc i} (omega arith) ∙ from (suc i)

module _ (test : List ℕ → Bool) (all : List (List ℕ)) where
  abbrev is_taken : ℕ → List ℕ × ℕ → Bool
  is_taken p k = passes test (slice_get all k.1) && (k.1 == p)

  abbrev others : End → List ℕ → ℕ → List (List ℕ) → ℕ → ℕ
  others end start p texts n = count (λ (k : List ℕ × ℕ). begins k.0 start && is_taken p k) (placed end n texts)

  among_placed : (end : End) (start : List ℕ) → ((text : List ℕ) → test text ≡ true → begins (read_from end text) start ≡ true) → (p : ℕ) (texts : List (List ℕ)) (n : ℕ) → From all n texts
      → count (λ (k : List ℕ × ℕ). begins k.0 start && is_taken p k) (placed end n texts) ≡ count (λ i. i == p) (places_of test n texts)
  among_placed end start begun p [] n from = refl
  among_placed end start begun p (t ∷ texts) n from = ap (λ o. cond (begins (read_from end t) start && (passes test o && (n == p))) (suc (others end start p texts (suc n))) (others end start p texts (suc n))) (here all n t texts from)
      ∙ by_test (test t) refl (among_placed end start begun p texts (suc n) (onward all n t texts from)) where
        by_test : (b : Bool) → test t ≡ b → (others end start p texts (suc n)) ≡ count (λ i. i == p) (places_of test (suc n) texts)
            → cond (begins (read_from end t) start && (test t && (n == p))) (suc (others end start p texts (suc n))) (others end start p texts (suc n)) ≡ count (λ i. i == p) (cond (test t) (n ∷ places_of test (suc n) texts) (places_of test (suc n) texts))
        by_test true is rest =
            ap (λ c. cond (c && (test t && (n == p))) (suc (others end start p texts (suc n))) (others end start p texts (suc n))) (begun t is) ∙ ap (λ c. cond (c && (n == p)) (suc (others end start p texts (suc n))) (others end start p texts (suc n))) is
            ∙ ap (λ m. cond (n == p) (suc m) m) rest ∙ sym (ap (λ c. count (λ i. i == p) (cond c (n ∷ places_of test (suc n) texts) (places_of test (suc n) texts))) is)
        by_test false is rest =
            ap (λ c. cond (begins (read_from end t) start && (c && (n == p))) (suc (others end start p texts (suc n))) (others end start p texts (suc n))) is ∙ ap (λ c. cond c (suc (others end start p texts (suc n))) (others end start p texts (suc n))) (and_right (begins (read_from end t) start) false refl)
            ∙ rest ∙ sym (ap (λ c. count (λ i. i == p) (cond c (n ∷ places_of test (suc n) texts) (places_of test (suc n) texts))) is)

  -- the keys that begin with a text have the places of all texts that pass a test, where what passes begins with it
  pub has_all : {K : Type 0} (key : K → List ℕ × ℕ) (end : End) (keys : List K) (start : List ℕ) → IsOrder key end all keys → ((text : List ℕ) → test text ≡ true → begins (read_from end text) start ≡ true) → HasAll key test all (filter (λ k. begins (key k).0 start) keys)
  has_all key end keys start order begun p =
      count_filter (λ k. is_taken p (key k)) (λ k. begins (key k).0 start) keys ∙ order.1 (λ k. begins k.0 start && is_taken p k) ∙ among_placed end start begun p all 0 (λ i. ap (slice_get all) {x = 0 + i} {y = i} (omega arith))

  -- the texts at those places are those that pass
  texts_from : (texts : List (List ℕ)) (n : ℕ) → From all n texts → filter_map (slice_get all) (places_of test n texts) ≡ filter test texts
  texts_from [] n from = refl
  texts_from (t ∷ texts) n from = by_test (test t) (texts_from texts (suc n) (onward all n t texts from)) where
    by_test : (b : Bool) → filter_map (slice_get all) (places_of test (suc n) texts) ≡ filter test texts
        → filter_map (slice_get all) (cond b (n ∷ places_of test (suc n) texts) (places_of test (suc n) texts)) ≡ cond b (t ∷ filter test texts) (filter test texts)
    by_test true rest = ap (λ o. cons_option o (filter_map (slice_get all) (places_of test (suc n) texts))) (here all n t texts from) ∙ ap (λ w. t ∷ w) rest
    by_test false rest = rest

  pub texts_at_places : filter_map (slice_get all) (places_of test 0 all) ≡ filter test all
  texts_at_places = texts_from all 0 (λ i. ap (slice_get all) {x = 0 + i} {y = i} (omega arith))

-- ---- lists of places that rise

-- no number of a list is below n
abbrev IsFloor : ℕ → List ℕ → Type 0
IsFloor n xs = (q : ℕ) → 0 < count (λ i. i == q) xs → n ≤ q

abbrev Rises : List ℕ → Type 0
Rises [] = Unit {0}
Rises (x ∷ xs) = IsFloor x xs × Rises xs

floor_first : (x : ℕ) (xs : List ℕ) → IsFloor x xs → IsFloor x (x ∷ xs)
floor_first x xs low q some = by_test (eqb x q) refl some where
  by_test : (b : Bool) → eqb x q ≡ b → 0 < cond b (suc (count (λ i. i == q) xs)) (count (λ i. i == q) xs) → x ≤ q
  by_test true is more = omega (arith, eqb-true x q is)
  by_test false is more = low q more

counts_itself : (x : ℕ) (xs : List ℕ) → count (λ i. i == x) (x ∷ xs) ≡ suc (count (λ i. i == x) xs)
counts_itself x xs = ap (λ b. cond b (suc (count (λ i. i == x) xs)) (count (λ i. i == x) xs)) (eq-eqb x x refl)

-- two lists that rise and have the same numbers as often are the same
same_rising : (xs ys : List ℕ) → Rises xs → Rises ys → ((p : ℕ) → count (λ i. i == p) xs ≡ count (λ i. i == p) ys) → xs ≡ ys
same_rising [] [] up_x up_y same = refl
same_rising [] (y ∷ ys) up_x up_y same = absurd (omega (arith, same y, counts_itself y ys))
same_rising (x ∷ xs) [] up_x up_y same = absurd (omega (arith, same x, counts_itself x xs))
same_rising (x ∷ xs) (y ∷ ys) up_x up_y same =
    let under : x ≤ y = floor_first x xs up_x.0 y (omega (arith, same y, counts_itself y ys)) in
    let over : y ≤ x = floor_first y ys up_y.0 x (omega (arith, same x, counts_itself x xs)) in
    let first : x ≡ y = omega (arith, under, over) in
    ap (λ n. n ∷ xs) first ∙ ap (λ w. y ∷ w) (same_rising xs ys up_x.1 up_y.1 (λ p. rest p (eqb y p) (ap (λ n. count (λ i. i == p) (n ∷ xs)) (sym first) ∙ same p))) where
      rest : (p : ℕ) (b : Bool) → cond b (suc (count (λ i. i == p) xs)) (count (λ i. i == p) xs) ≡ cond b (suc (count (λ i. i == p) ys)) (count (λ i. i == p) ys) → count (λ i. i == p) xs ≡ count (λ i. i == p) ys
      rest p true e = omega (arith, e)
      rest p false e = e

floor_of : (n : ℕ) (xs : List ℕ) → ((j d : ℕ) → j < length xs → n ≤ get_or xs j d) → IsFloor n xs
floor_of n [] low q some = absurd (omega (arith, some))
floor_of n (x ∷ xs) low q some = by_test (eqb x q) refl (floor_of n xs (λ j d within. low (suc j) d (omega (arith, within))) q) some where
  by_test : (b : Bool) → eqb x q ≡ b → (0 < count (λ i. i == q) xs → n ≤ q) → 0 < cond b (suc (count (λ i. i == q) xs)) (count (λ i. i == q) xs) → n ≤ q
  by_test true is rest more = omega (arith, eqb-true x q is, low 0 0 (omega arith))
  by_test false is rest more = rest more

rises_sorted : (xs : List ℕ) → ((i j d : ℕ) → i ≤ j → j < length xs → get_or xs i d ≤ get_or xs j d) → Rises xs
rises_sorted [] sorted = tt
rises_sorted (x ∷ xs) sorted =
    (floor_of x xs (λ j d within. sorted 0 (suc j) d (omega arith) (omega (arith, within))), rises_sorted xs (λ i j d low within. sorted (suc i) (suc j) d (omega (arith, low)) (omega (arith, within))))

above : (n : ℕ) (xs : List ℕ) → IsFloor (suc n) xs → IsFloor n xs
above n xs low q some = omega (arith, low q some)

floor_places : (test : List ℕ → Bool) (texts : List (List ℕ)) (n : ℕ) → IsFloor n (places_of test n texts)
floor_places test [] n q some = absurd (omega (arith, some))
floor_places test (t ∷ texts) n q some = by_test (test t) (above n (places_of test (suc n) texts) (floor_places test texts (suc n))) q some where
  by_test : (b : Bool) → IsFloor n (places_of test (suc n) texts) → IsFloor n (cond b (n ∷ places_of test (suc n) texts) (places_of test (suc n) texts))
  by_test true low = floor_first n (places_of test (suc n) texts) low
  by_test false low = low

rises_places : (test : List ℕ → Bool) (texts : List (List ℕ)) (n : ℕ) → Rises (places_of test n texts)
rises_places test [] n = tt
rises_places test (t ∷ texts) n = by_test (test t) (rises_places test texts (suc n)) where
  by_test : (b : Bool) → Rises (places_of test (suc n) texts) → Rises (cond b (n ∷ places_of test (suc n) texts) (places_of test (suc n) texts))
  by_test true up = (above n (places_of test (suc n) texts) (floor_places test texts (suc n)), up)
  by_test false up = up

-- places in order, as often as those of the texts that pass, are those
pub sorted_places : (test : List ℕ → Bool) (texts : List (List ℕ)) (places : List ℕ) → ((i j d : ℕ) → i ≤ j → j < length places → get_or places i d ≤ get_or places j d)
    → ((p : ℕ) → count (λ i. i == p) places ≡ count (λ i. i == p) (places_of test 0 texts)) → places ≡ places_of test 0 texts
sorted_places test texts places sorted same = same_rising places (places_of test 0 texts) (rises_sorted places sorted) (rises_places test texts 0) same

-- ---- keys in order

first_apart : (o u : Ordering) → is_lt (ordering_then o u) ≡ false → is_lt o ≡ false
first_apart Less u e = e
first_apart Equal u e = refl
first_apart Greater u e = refl

-- what is sorted by key and place, and was made of all texts, is their order
pub order_of : {K : Type 0} (key : K → List ℕ × ℕ) (end : End) (texts : List (List ℕ)) (made keys : List K) → map key made ≡ placed end 0 texts → IsPermutation made keys
    → IsSorted (λ a b. ordering_then (slice_cmp nat_cmp (key a).0 (key b).0) (nat_cmp (key a).1 (key b).1)) keys → IsOrder key end texts keys
order_of key end texts made keys is moved sorted = (
  (λ k d low within. first_apart (slice_cmp nat_cmp (key (get_or keys (k + 1) d)).0 (key (get_or keys k d)).0) (nat_cmp (key (get_or keys (k + 1) d)).1 (key (get_or keys k d)).1) (sorted k d low within)),
  λ test. count_moved (λ k. test (key k)) made keys moved ∙ sym (count_map test key made) ∙ ap (count test) is,
)

-- the places among keys that pass, in order, are all places that pass
pub places_are : {K : Type 0} (key : K → List ℕ × ℕ) (test : List ℕ → Bool) (texts : List (List ℕ)) (keys : List K) (found places : List ℕ) → HasAll key test texts keys
    → found ≡ filter (λ p. passes test (slice_get texts p)) (map (λ k. (key k).1) keys) → IsPermutation found places → IsSorted nat_cmp places → places ≡ places_of test 0 texts
places_are key test texts keys found places all is moved sorted =
    sorted_places test texts places (IsNonDecreasingBy-from_sort (λ x. x) places sorted) (λ p.
    count_moved (λ i. i == p) found places moved ∙ ap (count (λ i. i == p)) is
    ∙ count_filter (λ i. i == p) (λ q. passes test (slice_get texts q)) (map (λ k. (key k).1) keys)
    ∙ count_map (λ q. passes test (slice_get texts q) && (q == p)) (λ k. (key k).1) keys ∙ all p)

-- what was found by a beginning is enough for all tests that want it
pub found_all : {K : Type 0} (key : K → List ℕ × ℕ) (end : End) (entries texts : List (List ℕ)) (keys borrowed found : List K) (start : List ℕ) → IsOrder key end texts keys → entries ≡ texts → borrowed ≡ keys
    → found ≡ filter (λ k. begins (key k).0 start) borrowed → (test : List ℕ → Bool) → ((text : List ℕ) → test text ≡ true → begins (read_from end text) start ≡ true) → HasAll key test entries found
found_all key end entries texts keys borrowed found start order same given is test begun =
    subst (λ es. HasAll key test es found) (sym same) (subst (HasAll key test texts) (sym (is ∙ ap (filter (λ k. begins (key k).0 start)) given)) (has_all test texts key end keys start order begun))
