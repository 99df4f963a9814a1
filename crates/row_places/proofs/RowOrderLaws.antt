-- Rows in the strict order of a comparison: where a sought one stands or would stand, and what an exchange, an insert and a removal there are in the words of the definitions.
use Rattle.std.proofs.Common.{◌≡◌, ◌<◌, ◌≤◌, ℕ, zero, suc, List, [], ◌∷◌, ap, sym, subst, ◌∙◌, refl, cond, arith, Bool, true, false, length, get_or, Ok, Err, Result}
use Rattle.std.proofs.Math.ListN.{set}
use Rattle.std.proofs.lemmas.Cmp.{alike_right}
use Rattle.std.proofs.lemmas.List.Elements.{All-cons, All-tail, All-nil}
use Rattle.std.proofs.lemmas.List.Kept.{AllPairs-cons, AllPairs-filter}
use Rattle.std.specs.Cmp.{IsTotalOrder}
use Rattle.std.specs.Prelude.{filter, not, insert}
use Rattle.std.specs.List.{All, AllPairs}
use Rattle.std.specs.List.Sorted.{IsBinarySearchResult, IsPartitionPoint, IsSearchInRange}
use Rattle.std.specs.Ordering.{is_eq, is_lt, ordering_reverse}
use Rattle.std.specs.declared.cmp.Ordering.{Ordering}
use Rattle.std.specs.declared.cmp.Ordering.TheVariants.{Less, Equal, Greater}
use Rattle.row_places.specs.RowPlaces.{IsPlaceOrGap, NoneOf, OnlyAt}
use Rattle.prop_map.specs.Words.{insert_by}
use Rattle.row_places.proofs.RowPlaceLaws.{all_rise, filter_none, filter_only, only_found, none_found}

module _ {X : Type 0} (cmp : X → X → Ordering) (total : IsTotalOrder cmp) where
  abbrev pub Precedes : X → X → Type 0
  Precedes x y = cmp x y ≡ Less

  abbrev before : X → X → Bool
  before x y = is_lt (cmp x y)

  turned : (x y : X) (o : Ordering) → cmp x y ≡ o → cmp y x ≡ ordering_reverse o
  turned x y o e = total.antisymm y x ∙ ap ordering_reverse e

  -- behind a row that isn't before the sought one there are only rows after it
  pub behind : (sought x z : X) → Precedes x z → (cmp x sought ≡ Less → ⊥) → cmp z sought ≡ Greater
  behind sought x z less isnt = by_order (cmp x sought) refl where
    by_order : (o : Ordering) → cmp x sought ≡ o → cmp z sought ≡ Greater
    by_order Less e = absurd (isnt e)
    by_order Equal e = turned sought z Less (sym (total.congr x sought z e) ∙ less)
    by_order Greater e = turned sought z Less (total.trans sought x z (turned x sought Greater e) less)

  module _ (sought : X) where
    abbrev is_sought : X → Bool
    is_sought x = is_eq (cmp x sought)

    -- what a binary search finds
    pub placed : (xs : List X) (r : Result ℕ ℕ) → AllPairs Precedes xs → IsBinarySearchResult (λ x. cmp x sought) xs r → IsSearchInRange r (length xs) → IsPlaceOrGap (λ x. cmp x sought) r xs
    placed xs (Ok k) pairs found within = only_found Precedes (λ x. cmp x sought) (behind sought) k xs pairs within found
    placed xs (Err i) pairs found within = (within, found (all_rise Precedes (λ x. cmp x sought) (behind sought) xs pairs))

    -- a row that ties with the sought one is compared as that is
    module _ (y : X) (ties : cmp y sought ≡ Equal) where
      alike : (x : X) → cmp x y ≡ cmp x sought
      alike x = alike_right total y sought x ties

      goes_first : (x : X) → cmp x sought ≡ Greater → before y x ≡ true
      goes_first x e = ap is_lt (turned x y Greater (alike x ∙ e))

      goes_later : (x : X) → cmp x sought ≡ Less → before y x ≡ false
      goes_later x e = ap is_lt (turned x y Less (alike x ∙ e))

      insert_first : (xs : List X) → All (λ x. cmp x sought ≡ Greater) xs → insert_by before y xs ≡ y ∷ xs
      insert_first [] after = refl
      insert_first (x ∷ xs) after = ap (λ b. cond b (y ∷ x ∷ xs) (x ∷ insert_by before y xs)) (goes_first x (after 0 x (omega arith)))

      is_greater : (x : X) (xs : List X) → AllPairs Precedes (x ∷ xs) → is_sought x ≡ true → All (λ z. cmp z sought ≡ Greater) xs
      is_greater x xs pairs same k d within = behind sought x (get_or xs k d) (pairs 0 (suc k) d (omega arith) (omega (arith, within))) (λ less. not_equal (ap is_eq less) same) where
        not_equal : is_sought x ≡ false → is_sought x ≡ true → ⊥
        not_equal f t = cc

      rest : (x : X) (xs : List X) → AllPairs Precedes (x ∷ xs) → AllPairs Precedes xs
      rest x xs pairs i j d lt within = pairs (suc i) (suc j) d (omega (arith, lt)) (omega (arith, within))

      only_has : (k : ℕ) (xs : List X) (d : X) → OnlyAt is_sought k xs → is_sought (get_or xs k d) ≡ true
      only_has k [] d h = absurd h
      only_has zero (x ∷ xs) d h = h.0
      only_has (suc k) (x ∷ xs) d h = only_has k xs d h.1

      in_front : (x z : X) → Precedes x z → is_sought z ≡ true → is_sought x ≡ false → (o : Ordering) → cmp x sought ≡ o → cmp x sought ≡ Less
      in_front x z less same other Less e = e
      in_front x z less same other Equal e = let f : is_sought x ≡ true = ap is_eq e in absurd (clash f other) where
        clash : is_sought x ≡ true → is_sought x ≡ false → ⊥
        clash t f = cc
      in_front x z less same other Greater e = let g = behind sought x z less (λ l. (cc)) in let f : is_sought z ≡ false = ap is_eq g in absurd (clash same f) where
        clash : is_sought z ≡ true → is_sought z ≡ false → ⊥
        clash t f = cc

      inside : (k : ℕ) (xs : List X) → OnlyAt is_sought k xs → k < length xs
      inside k [] h = absurd h
      inside zero (x ∷ xs) h = omega arith
      inside (suc k) (x ∷ xs) h = omega (arith, inside k xs h.1)

      -- in the place of the one that is there
      pub exchanged : (k : ℕ) (xs : List X) → AllPairs Precedes xs → OnlyAt is_sought k xs → insert_by before y (filter (λ x. not (is_sought x)) xs) ≡ set xs k y
      exchanged k [] pairs only = absurd only
      exchanged zero (x ∷ xs) pairs only =
          ap (λ b. insert_by before y (cond (not b) (x ∷ filter (λ z. not (is_sought z)) xs) (filter (λ z. not (is_sought z)) xs))) only.0
          ∙ ap (insert_by before y) (filter_none is_sought xs only.1) ∙ insert_first xs (is_greater x xs pairs only.0)
      exchanged (suc k) (x ∷ xs) pairs only =
          ap (λ b. insert_by before y (cond (not b) (x ∷ filter (λ z. not (is_sought z)) xs) (filter (λ z. not (is_sought z)) xs))) only.0
          ∙ ap (λ b. cond b (y ∷ x ∷ filter (λ z. not (is_sought z)) xs) (x ∷ insert_by before y (filter (λ z. not (is_sought z)) xs)))
          (goes_later x (in_front x (get_or xs k x) (pairs 0 (suc k) x (omega arith) (omega (arith, inside k xs only.1))) (only_has k xs x only.1) only.0 (cmp x sought) refl))
          ∙ ap (λ zs. x ∷ zs) (exchanged k xs (rest x xs pairs) only.1)

      -- in the gap, where none is there
      insert_gap : (i : ℕ) (xs : List X) → i ≤ length xs → IsPartitionPoint (λ x. cmp x sought ≡ Less) (λ x. cmp x sought ≡ Greater) xs i → insert_by before y xs ≡ insert xs i y
      insert_gap zero xs within gap = insert_first xs (λ k d h. gap.1 k d (omega arith) h)
      insert_gap (suc i) [] within gap = absurd (omega (arith, within))
      insert_gap (suc i) (x ∷ xs) within gap =
          ap (λ b. cond b (y ∷ x ∷ xs) (x ∷ insert_by before y xs)) (goes_later x (gap.0 0 x (omega arith) (omega arith)))
          ∙ ap (λ zs. x ∷ zs) (insert_gap i xs (omega (arith, within)) ((λ k d l h. gap.0 (suc k) d (omega arith) (omega (arith, h))), (λ k d l h. gap.1 (suc k) d (omega (arith, l)) (omega (arith, h)))))

      pub inserted : (i : ℕ) (xs : List X) → IsPlaceOrGap (λ x. cmp x sought) (Err i) xs → insert_by before y (filter (λ x. not (is_sought x)) xs) ≡ insert xs i y
      inserted i xs gap = ap (insert_by before y) (filter_none is_sought xs (none_found Precedes (λ x. cmp x sought) (behind sought) i xs gap.1)) ∙ insert_gap i xs gap.0 gap.1

      All_insert_by : (P : X → Type 0) (xs : List X) → P y → All P xs → All P (insert_by before y xs)
      All_insert_by P [] py all = All-cons P y [] py all
      All_insert_by P (x ∷ xs) py all = by_test (All_insert_by P xs py (All-tail P x xs all)) (before y x) where
        by_test : All P (insert_by before y xs) → (b : Bool) → All P (cond b (y ∷ x ∷ xs) (x ∷ insert_by before y xs))
        by_test more true = All-cons P y (x ∷ xs) py all
        by_test more false = All-cons P x (insert_by before y xs) (all 0 x (omega arith)) more

      order_of : (b : Bool) (x : X) → is_sought x ≡ false → before y x ≡ b → cmp x y ≡ cond b Greater Less
      order_of b x other e = by_order (cmp x sought) refl where
        by_order : (o : Ordering) → cmp x sought ≡ o → cmp x y ≡ cond b Greater Less
        by_order Less f = let g = sym (goes_later x f) ∙ e in alike x ∙ f ∙ ap (λ c. cond c Greater Less) g
        by_order Equal f = let g : is_sought x ≡ true = ap is_eq f in absurd (clash g other) where
          clash : is_sought x ≡ true → is_sought x ≡ false → ⊥
          clash t u = cc
        by_order Greater f = let g = sym (goes_first x f) ∙ e in alike x ∙ f ∙ ap (λ c. cond c Greater Less) g

      ordered_insert : (xs : List X) → NoneOf is_sought xs → AllPairs Precedes xs → AllPairs Precedes (insert_by before y xs)
      ordered_insert [] none pairs = AllPairs-cons Precedes y [] (All-nil (Precedes y)) pairs
      ordered_insert (x ∷ xs) none pairs = by_test (ordered_insert xs none.1 (rest x xs pairs)) (before y x) refl where
        by_test : AllPairs Precedes (insert_by before y xs) → (b : Bool) → before y x ≡ b → AllPairs Precedes (cond b (y ∷ x ∷ xs) (x ∷ insert_by before y xs))
        by_test more true e = let first : cmp y x ≡ Less = turned x y Greater (order_of true x none.0 e) in
            AllPairs-cons Precedes y (x ∷ xs) (All-cons (Precedes y) x xs first (λ k d h. total.trans y x (get_or xs k d) first (pairs 0 (suc k) d (omega arith) (omega (arith, h))))) pairs
        by_test more false e = AllPairs-cons Precedes x (insert_by before y xs) (All_insert_by (Precedes x) xs (order_of false x none.0 e) (λ k d h. pairs 0 (suc k) d (omega arith) (omega (arith, h))))
            more

      none_left : (xs : List X) → NoneOf is_sought (filter (λ x. not (is_sought x)) xs)
      none_left [] = tt
      none_left (x ∷ xs) = by_test (none_left xs) (is_sought x) refl where
        by_test : NoneOf is_sought (filter (λ z. not (is_sought z)) xs) → (b : Bool) → is_sought x ≡ b → NoneOf is_sought (cond (not b) (x ∷ filter (λ z. not (is_sought z)) xs) (filter (λ z. not (is_sought z)) xs))
        by_test more true e = more
        by_test more false e = (e, more)

      -- with it the rows are in order
      pub ordered_with : (xs : List X) → AllPairs Precedes xs → AllPairs Precedes (insert_by before y (filter (λ x. not (is_sought x)) xs))
      ordered_with xs pairs = ordered_insert (filter (λ x. not (is_sought x)) xs) (none_left xs) (AllPairs-filter Precedes (λ x. not (is_sought x)) xs pairs)
