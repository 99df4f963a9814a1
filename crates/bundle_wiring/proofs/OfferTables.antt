-- Offers in their order: those of a need's name stand together, and of two that count the earlier isn't worse.
use Rattle.std.proofs.Common.{◌≡◌, ℕ, suc, ◌+◌, ◌<◌, ◌≤◌, List, [], ◌∷◌, length, get_or, map, ap, sym, ◌∙◌, refl, Bool, true, false, ltb, inl, inr, arith}
use Rattle.std.specs.Cmp.{IsStrictWeakOrder, IsTotalOrder}
use Rattle.std.specs.Cmp.Lexicographic.{slice_cmp}
use Rattle.std.specs.List.{AllWithin, list_any, position_or_len}
use Rattle.std.specs.List.Sorted.{IsPartitionedBy, IsPermutation, IsSorted}
use Rattle.std.specs.Ordering.{is_le, is_lt, nat_cmp, ordering_index, ordering_then}
use Rattle.std.specs.declared.cmp.Ordering.{Ordering}
use Rattle.std.specs.declared.cmp.Ordering.TheVariants.{Less, Equal, Greater}
use Rattle.std.specs.Str.{bytes_eq}
use Rattle.std.proofs.lemmas.Bool.{and_parts, and_right, cases_lt}
use Rattle.std.proofs.lemmas.Cmp.{nat_list_cmp_total, on_total, then_total, tied_itself}
use Rattle.std.proofs.lemmas.List.{get_or_read}
use Rattle.std.proofs.lemmas.List.Sorted.{IsPartitionedBy-ltb, list_any-IsPermutation, ranks_by, searchable_from_sorted, sorted_far}
use Rattle.std.proofs.lemmas.Slice.Eq.{bytes_eq-Decides}
use Rattle.bundle_wiring.specs.Placing.{HaveSame, Homed, cmp_to, homed_of, name_cmp, placed_of, table_cmp}
use Rattle.bundle_wiring.specs.Resolution.{Placed, is_better, meets, placed_cmp}
use Rattle.bundle_wiring.specs.Standings.{IsPassed, counts, first_place, is_there}
use Rattle.bundle_wiring.specs.declared.placed_offers.PlacedOffer.{PlacedOffer}
use Rattle.bundle_wiring.specs.declared.wiring.WireNeed.{WireNeed}
use Rattle.bundle_wiring.proofs.BestOffers.{placed_total}
use Rattle.bundle_wiring.proofs.Places.{position_is}
use Rattle.bundle_wiring.proofs.Sets.{any_map}

-- ---- the sort

key_total : IsTotalOrder (λ (a b : Placed). ordering_then (slice_cmp nat_cmp a.offer.name b.offer.name) (placed_cmp a b))
key_total = then_total (on_total (λ (p : Placed). p.offer.name) nat_list_cmp_total) placed_total

abbrev pub stands_earlier : PlacedOffer → PlacedOffer → Bool
stands_earlier o p = is_lt (table_cmp o p)

pub table_ranks : IsStrictWeakOrder stands_earlier
table_ranks = ranks_by key_total placed_of

pub sort_same : (xs ys : List PlacedOffer) → IsPermutation xs ys → HaveSame (map homed_of ys) (map homed_of xs)
sort_same xs ys permutation test =
    any_map test homed_of ys ∙ (sym (list_any-IsPermutation (λ (o : PlacedOffer). test (homed_of o)) xs ys permutation) ∙ sym (any_map test homed_of xs))

not_earlier : (r q : Ordering) → is_lt (ordering_then r q) ≡ false → is_lt r ≡ false
not_earlier Less q h = h
not_earlier Equal q h = refl
not_earlier Greater q h = refl

sorted_names : (os : List PlacedOffer) → IsSorted table_cmp os → IsSorted name_cmp os
sorted_names os sorted k d low high =
    not_earlier (name_cmp (get_or os (k + 1) d) (get_or os k d)) (placed_cmp (placed_of (get_or os (k + 1) d)) (placed_of (get_or os k d))) (sorted k d low high)

-- ---- the offers of a name

-- an offer that meets a need has its name
name_met : (need : WireNeed) (o : PlacedOffer) → meets need o.offer.now ≡ true → o.offer.now.name ≡ need.name
name_met need o h = let parts = and_parts _ _ (and_parts _ _ h).0 in sym ((bytes_eq-Decides need.name o.offer.now.name).0 parts.1)

same_name : (need : WireNeed) (o : PlacedOffer) → meets need o.offer.now ≡ true → cmp_to need.name o ≡ Equal
same_name need o h = ap (λ n. slice_cmp nat_cmp n need.name) (name_met need o h) ∙ tied_itself nat_list_cmp_total need.name

fails_by : (test : Ordering → Bool) (t : Bool) → (test Equal ≡ t → true ≡ false) → (left : List Bool) (need : WireNeed) (o : PlacedOffer) → test (cmp_to need.name o) ≡ t → counts left need o ≡ false
fails_by test t other left need o e = and_right (is_there left o.home) (meets need o.offer.now) (by (meets need o.offer.now) refl) where
  by : (b : Bool) → meets need o.offer.now ≡ b → b ≡ false
  by true m = other (ap test (sym (same_name need o m)) ∙ e)
  by false m = refl

pub fails_earlier : (left : List Bool) (need : WireNeed) (o : PlacedOffer) → is_lt (cmp_to need.name o) ≡ true → counts left need o ≡ false
fails_earlier = fails_by is_lt true (λ e. sym e)

pub fails_later : (left : List Bool) (need : WireNeed) (o : PlacedOffer) → is_le (cmp_to need.name o) ≡ false → counts left need o ≡ false
fails_later = fails_by is_le false (λ e. e)

lt_index : (r : Ordering) → is_lt r ≡ ltb (ordering_index r) 1
lt_index Less = refl
lt_index Equal = refl
lt_index Greater = refl

le_index : (r : Ordering) → is_le r ≡ ltb (ordering_index r) 2
le_index Less = refl
le_index Equal = refl
le_index Greater = refl

parted_by : (test : Ordering → Bool) (t : ℕ) → ((r : Ordering) → test r ≡ ltb (ordering_index r) t) → (os : List PlacedOffer) (name : List ℕ) → IsSorted table_cmp os → IsPartitionedBy (λ o. test (cmp_to name o)) os
parted_by test t is os name sorted i j d low high h =
    let parted = IsPartitionedBy-ltb (λ (o : PlacedOffer). ordering_index (cmp_to name o)) os t (searchable_from_sorted nat_list_cmp_total (λ (o : PlacedOffer). o.offer.now.name) os name (sorted_names os sorted)) in
    is (cmp_to name (get_or os i d)) ∙ parted i j d low high (sym (is (cmp_to name (get_or os j d))) ∙ h)

pub parted_before : (os : List PlacedOffer) (name : List ℕ) → IsSorted table_cmp os → IsPartitionedBy (λ o. is_lt (cmp_to name o)) os
parted_before = parted_by is_lt 1 lt_index

pub parted_up_to : (os : List PlacedOffer) (name : List ℕ) → IsSorted table_cmp os → IsPartitionedBy (λ o. is_le (cmp_to name o)) os
parted_up_to = parted_by is_le 2 le_index

-- no offer before those of its name counts for a need
pub passed_to_name : (left : List Bool) (need : WireNeed) (os : List PlacedOffer) (n : ℕ) → AllWithin (λ o. is_lt (cmp_to need.name o) ≡ true) os 0 n → IsPassed left need os n
passed_to_name left need os n earlier k d low = fails_earlier left need (get_or os k d) (earlier k d (omega arith) low)

-- the offer at a place counts, and none before
pub first_at : (left : List Bool) (need : WireNeed) (os : List PlacedOffer) (at : ℕ) (o : PlacedOffer) → at < length os → o ≡ get_or os at o → counts left need o ≡ true → IsPassed left need os at → at ≡ first_place left need os
first_at left need os at o low is h passed =
    sym (position_is (counts left need) os at (omega (arith, low)) passed (λ d _. ap (counts left need) (sym (get_or_read os at o low is d)) ∙ h))

-- one more offer is passed
pub passed_more : (left : List Bool) (need : WireNeed) (os : List PlacedOffer) (at : ℕ) (o : PlacedOffer) → at < length os → o ≡ get_or os at o → counts left need o ≡ false → IsPassed left need os at → IsPassed left need os (at + 1)
passed_more left need os at o low is h passed k d below = elim (cases_lt k at) [
  | inl before ↦ passed k d before
  | inr from ↦
      let same : k ≡ at = omega (arith, below, from) in
      ap (λ n. counts left need (get_or os n d)) same ∙ (ap (counts left need) (sym (get_or_read os at o low is d)) ∙ h)
]

-- where all up to the end of a name are passed, none counts
pub none_first : (left : List Bool) (need : WireNeed) (os : List PlacedOffer) (at end : ℕ) → end ≤ at → IsPassed left need os at → AllWithin (λ o. is_le (cmp_to need.name o) ≡ false) os end (length os)
    → length os ≡ first_place left need os
none_first left need os at end over passed later =
    sym (position_is (counts left need) os (length os) (omega arith) fails (λ d no. absurd (omega (arith, no)))) where
      fails : (k : ℕ) (d : PlacedOffer) → k < length os → counts left need (get_or os k d) ≡ false
      fails k d low = elim (cases_lt k at) [
        | inl before ↦ passed k d before
        | inr from ↦ fails_later left need (get_or os k d) (later k d (omega (arith, over, from)) low)
      ]

-- ---- the best

equal_then : (r q : Ordering) → r ≡ Equal → is_lt (ordering_then r q) ≡ false → is_lt q ≡ false
equal_then Less q e h = absurd (cc)
equal_then Equal q e h = h
equal_then Greater q e h = absurd (cc)

-- of two offers that meet a need the later isn't better
pub later_not_better : (os : List PlacedOffer) (need : WireNeed) → IsSorted table_cmp os → (i j : ℕ) (d : PlacedOffer) → i ≤ j → j < length os → meets need (get_or os i d).offer.now ≡ true → meets need (get_or os j d).offer.now ≡ true
    → is_better (placed_of (get_or os j d)) (placed_of (get_or os i d)) ≡ false
later_not_better os need sorted i j d low high m n =
    let a = get_or os j d in
    let b = get_or os i d in
    let names : name_cmp a b ≡ Equal = ap (λ t. slice_cmp nat_cmp t b.offer.now.name) (name_met need a n ∙ sym (name_met need b m)) ∙ tied_itself nat_list_cmp_total b.offer.now.name in
    equal_then (name_cmp a b) (placed_cmp (placed_of a) (placed_of b)) names (sorted_far stands_earlier table_ranks os sorted i j d low high)
