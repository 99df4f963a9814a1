-- What the offers of the bundles that are left say, asked of the offers of all in their order.
use Rattle.std.proofs.Common.{◌≡◌, ℕ, zero, suc, ◌+◌, ◌<◌, ◌≤◌, ◌++◌, List, [], ◌∷◌, length, get_or, map, ap, sym, ◌∙◌, refl, subst, Bool, true, false, ◌&&◌, Option, Some, None, inl, inr, arith}
use Rattle.std.specs.Prelude.{◌||◌, filter, find, flat_map, is_none, not, option_map, if◌then◌else◌, slice_get, IsTrue}
use Rattle.std.specs.List.{list_all, list_any, position_or_len}
use Rattle.std.specs.Ordering.{is_lt, nat_cmp, ordering_reverse, ordering_then}
use Rattle.std.specs.declared.cmp.Ordering.{Ordering}
use Rattle.std.specs.declared.cmp.Ordering.TheVariants.{Less, Equal, Greater}
use Rattle.std.proofs.lemmas.Bool.{and_left, and_parts, cases_lt, or_parts, true_from_ne_false}
use Rattle.std.proofs.lemmas.List.Folds.{find_at, list_any-append, list_any_none}
use Rattle.std.proofs.lemmas.Map.Lookups.{exact_unsigned}
use Rattle.std.proofs.lemmas.Option.{get_or_from_slice_get, slice_get_within}
use Rattle.osgi_version.specs.Versions.{version_cmp}
use Rattle.bundle_wiring.specs.Best.{IsAmong, IsBest}
use Rattle.bundle_wiring.specs.Placing.{Homed, IsTable, all_homed, homed_from, homed_of, homed_of_bundles, placed_of, some_placed}
use Rattle.bundle_wiring.specs.Resolution.{Bundle, Placed, all_placed, best, candidates, has_candidate, is_better, meets, placed_cmp, placed_from, platform_offers, wire_of}
use Rattle.bundle_wiring.specs.Standings.{counts, first_place, is_left, is_there, left_from, left_of}
use Rattle.bundle_wiring.specs.declared.placed_offers.PlacedOffer.{PlacedOffer}
use Rattle.bundle_wiring.specs.declared.resolved.Wire.{Wire}
use Rattle.bundle_wiring.specs.declared.wiring.Offer.{Offer}
use Rattle.bundle_wiring.specs.declared.wiring.WireNeed.{WireNeed}
use Rattle.bundle_wiring.proofs.BestOffers.{no_best, placed_total, some_best}
use Rattle.bundle_wiring.proofs.OfferTables.{later_not_better}
use Rattle.bundle_wiring.proofs.Places.{fails_before_position}
use Rattle.bundle_wiring.proofs.Sets.{any_map, any_same, find_none, found_fails, found_passes}

-- ---- the offers of bundles that are left

abbrev there : List Bool → (Placed → Bool) → Homed → Bool
there left P h = is_there left h.0 && P h.1

distribute : (t x r : Bool) → (t && x) || (t && r) ≡ t && (x || r)
distribute true x r = refl
distribute false x r = refl

and_false : (t : Bool) → false ≡ t && false
and_false true = refl
and_false false = refl

homed_any : (left : List Bool) (P : Placed → Bool) (home : Option ℕ) (to place : ℕ) (offers : List Offer) → list_any (there left P) (homed_from home to place offers) ≡ is_there left home && list_any P (placed_from to place offers)
homed_any left P home to place [] = and_false (is_there left home)
homed_any left P home to place (o ∷ os) =
    let x = P (record { to = to; place = place; offer = o }) in
    ap (λ b. (is_there left home && x) || b) (homed_any left P home to (place + 1) os) ∙ distribute (is_there left home) x (list_any P (placed_from to (place + 1) os))

abbrev offered : Bundle → List Placed
offered b = placed_from b.0 0 b.1.offers

kept_step : (P : Placed → Bool) (b : Bundle) (bs : List Bundle) (t : Bool) → (t && list_any P (offered b)) || list_any P (flat_map offered bs) ≡ list_any P (flat_map offered (if t then b ∷ bs else bs))
kept_step P b bs true = sym (list_any-append P (offered b) (flat_map offered bs))
kept_step P b bs false = refl

bundles_any : (left : List Bool) (P : Placed → Bool) (home : ℕ) (bs : List Bundle) → list_any (there left P) (homed_of_bundles home bs) ≡ list_any P (flat_map offered (left_from home left bs))
bundles_any left P home [] = refl
bundles_any left P home (b ∷ bs) =
    list_any-append (there left P) (homed_from (Some home) b.0 0 b.1.offers) (homed_of_bundles (home + 1) bs)
    ∙ (ap (λ x. x || list_any (there left P) (homed_of_bundles (home + 1) bs)) (homed_any left P (Some home) b.0 0 b.1.offers)
    ∙ (ap (λ x. (is_left left home && list_any P (offered b)) || x) (bundles_any left P (home + 1) bs) ∙ kept_step P b (left_from (home + 1) left bs) (is_left left home)))

all_any : (left : List Bool) (P : Placed → Bool) (bundles : List Bundle) → list_any (there left P) (all_homed bundles) ≡ list_any P (all_placed (left_of left bundles))
all_any left P bundles =
    list_any-append (there left P) (homed_from None 0 0 platform_offers) (homed_of_bundles 0 bundles)
    ∙ (ap (λ x. x || list_any (there left P) (homed_of_bundles 0 bundles)) (homed_any left P None 0 0 platform_offers)
    ∙ (ap (λ x. list_any P (placed_from 0 0 platform_offers) || x) (bundles_any left P 0 bundles)
    ∙ sym (list_any-append P (placed_from 0 0 platform_offers) (flat_map offered (left_of left bundles)))))

module _ (bundles : List Bundle) (table : List PlacedOffer) (is : IsTable bundles table) (left : List Bool) where
  -- what an offer of a bundle that is there passes, an offer of those that are left passes
  table_any : (P : Placed → Bool) → list_any (λ (o : PlacedOffer). is_there left o.home && P (placed_of o)) table ≡ list_any P (all_placed (left_of left bundles))
  table_any P = sym (any_map (there left P) homed_of table) ∙ (is.same (there left P) ∙ all_any left P bundles)

placed_any : (need : WireNeed) (to place : ℕ) (offers : List Offer) → some_placed (placed_from to place offers) need ≡ list_any (meets need) offers
placed_any need to place [] = refl
placed_any need to place (o ∷ os) = ap (λ b. meets need o || b) (placed_any need to (place + 1) os)

set_any : (need : WireNeed) (set : List Bundle) → some_placed (flat_map offered set) need ≡ list_any (λ (b : Bundle). list_any (meets need) b.1.offers) set
set_any need [] = refl
set_any need (b ∷ bs) =
    let rest = flat_map offered bs in
    list_any-append (λ (o : Placed). meets need o.offer) (offered b) rest
    ∙ (ap (λ x. x || some_placed rest need) (placed_any need b.0 0 b.1.offers) ∙ ap (λ x. list_any (meets need) b.1.offers || x) (set_any need bs))

pub placed_candidate : (set : List Bundle) (need : WireNeed) → some_placed (all_placed set) need ≡ has_candidate set need
placed_candidate set need =
    let rest = flat_map offered set in
    list_any-append (λ (o : Placed). meets need o.offer) (placed_from 0 0 platform_offers) rest
    ∙ (ap (λ x. x || some_placed rest need) (placed_any need 0 0 platform_offers) ∙ ap (λ x. list_any (meets need) platform_offers || x) (set_any need set))

-- ---- the best candidate

-- of what passes a test and no other, each item fails the other
among_step : (M B : Placed → Bool) (x : Placed) (xs : List Placed) (b : Placed) (m : Bool) → m && B x ≡ false → (IsAmong (filter M xs) b → B b ≡ false) → IsAmong (if m then x ∷ filter M xs else filter M xs) b → B b ≡ false
among_step M B x xs b true e f (inl same) = ap B same ∙ e
among_step M B x xs b true e f (inr more) = f more
among_step M B x xs b false e f more = f more

among_fails : (M B : Placed → Bool) (xs : List Placed) (b : Placed) → list_any (λ o. M o && B o) xs ≡ false → IsAmong (filter M xs) b → B b ≡ false
among_fails M B [] b h among = absurd among
among_fails M B (x ∷ xs) b h among =
    let parts = or_parts (M x && B x) (list_any (λ o. M o && B o) xs) h in
    among_step M B x xs b (M x) parts.0 (among_fails M B xs b parts.1) among

none_step : (B : Placed → Bool) (x : Placed) (xs : List Placed) (m any : Bool) → (list_all (λ o. not (B o)) xs ≡ true → any ≡ false) → list_all (λ o. not (B o)) (if m then x ∷ xs else xs) ≡ true → (m && B x) || any ≡ false
none_step B x xs true any f h =
    let parts = and_parts (not (B x)) (list_all (λ o. not (B o)) xs) h in
    by (B x) parts.0 (f parts.1) where
      by : (b : Bool) → not b ≡ true → any ≡ false → b || any ≡ false
      by true e g = absurd (cc)
      by false e g = g
none_step B x xs false any f h = f h

none_fails : (M B : Placed → Bool) (xs : List Placed) → list_all (λ o. not (B o)) (filter M xs) ≡ true → list_any (λ o. M o && B o) xs ≡ false
none_fails M B [] h = refl
none_fails M B (x ∷ xs) h = none_step B x (filter M xs) (M x) (list_any (λ o. M o && B o) xs) (none_fails M B xs) h

kept_nothing : (M : Placed → Bool) (x : Placed) (xs : List Placed) (m : Bool) → (filter M xs ≡ [] → list_any M xs ≡ false) → (if m then x ∷ filter M xs else filter M xs) ≡ [] → m || list_any M xs ≡ false
kept_nothing M x xs true f h = absurd (cc)
kept_nothing M x xs false f h = f h

pub none_kept : (M : Placed → Bool) (xs : List Placed) → filter M xs ≡ [] → list_any M xs ≡ false
none_kept M [] e = refl
none_kept M (x ∷ xs) e = kept_nothing M x xs (M x) (none_kept M xs) e

pub kept_none : (M : Placed → Bool) (xs : List Placed) → list_any M xs ≡ false → filter M xs ≡ []
kept_none M [] e = refl
kept_none M (x ∷ xs) e =
    let parts = or_parts (M x) (list_any M xs) e in
    ap (λ m. if m then x ∷ filter M xs else filter M xs) parts.0 ∙ kept_none M xs parts.1

-- none of two is better: they are of one bundle number and one place
tied : (a b : Placed) (p q : Ordering) → placed_cmp a b ≡ p → placed_cmp b a ≡ q → is_lt p ≡ false → is_lt q ≡ false → p ≡ Equal
tied a b Less q ep eq h k = absurd (cc)
tied a b Equal q ep eq h k = refl
tied a b Greater q ep eq h k =
    let less : q ≡ Less = sym eq ∙ (placed_total.antisymm b a ∙ ap ordering_reverse ep) in
    let no : true ≡ false = ap is_lt (sym less) ∙ k in absurd (cc)

then_equal : (r q : Ordering) → ordering_then r q ≡ Equal → (r ≡ Equal) × (q ≡ Equal)
then_equal Less q e = absurd (cc)
then_equal Equal q e = (refl, e)
then_equal Greater q e = absurd (cc)

wire_same : (from need : ℕ) (a b : Placed) → is_better a b ≡ false → is_better b a ≡ false → wire_of from need (Some a) ≡ wire_of from need (Some b)
wire_same from need a b h k =
    let equal = tied a b (placed_cmp a b) (placed_cmp b a) refl refl h k in
    let behind = then_equal (version_cmp b.offer.version a.offer.version) (ordering_then (nat_cmp a.to b.to) (nat_cmp a.place b.place)) equal in
    let numbers = then_equal (nat_cmp a.to b.to) (nat_cmp a.place b.place) behind.1 in
    let to : a.to ≡ b.to = exact_unsigned a.to b.to numbers.0 in
    let place : a.place ≡ b.place = exact_unsigned a.place b.place numbers.1 in
    ap (λ n. record { from = from; need = need; to = n; offer = a.place } ∷ []) to ∙ ap (λ n. record { from = from; need = need; to = b.to; offer = n } ∷ []) place

from_not : (t : Bool) → not t ≡ true → t ≡ false
from_not true e = absurd (cc)
from_not false e = refl

last_false : (t m c : Bool) → t ≡ true → m ≡ true → t && (m && c) ≡ false → c ≡ false
last_false true true c h k e = e
last_false true false c h k e = absurd (cc)
last_false false m c h k e = absurd (cc)

by_bools : (t m b : Bool) → (m ≡ true → b ≡ false) → t && (m && b) ≡ false
by_bools false m b f = refl
by_bools true false b f = refl
by_bools true true b f = f refl

by_count : (t m b : Bool) → t && m ≡ false → t && (m && b) ≡ false
by_count false m b h = refl
by_count true true b h = absurd (cc)
by_count true false b h = refl

module _ (bundles : List Bundle) (table : List PlacedOffer) (is : IsTable bundles table) (left : List Bool) (need : WireNeed) where
  abbrev offers : List Placed
  offers = all_placed (left_of left bundles)

  abbrev it_meets : Placed → Bool
  it_meets o = meets need o.offer

  -- a need has no candidate among those that are left where no offer counts
  pub no_candidate : is_none (slice_get table (first_place left need table)) ≡ not (has_candidate (left_of left bundles) need)
  no_candidate =
      ap is_none (sym (find_at (counts left need) table))
      ∙ (find_none (counts left need) table ∙ ap not (table_any bundles table is left it_meets ∙ placed_candidate (left_of left bundles) need))

  -- none that counts is better than the first that does
  first_is_best : (f : PlacedOffer) → find (counts left need) table ≡ Some f → list_any (λ (o : PlacedOffer). is_there left o.home && (it_meets (placed_of o) && is_better (placed_of o) (placed_of f))) table ≡ false
  first_is_best f found = list_any_none _ table fails where
    at : ℕ
    at = first_place left need table

    there_it_is : slice_get table at ≡ Some f
    there_it_is = sym (find_at (counts left need) table) ∙ found

    f_meets : meets need f.offer.now ≡ true
    f_meets = (and_parts (is_there left f.home) (meets need f.offer.now) (found_passes (counts left need) table f found)).1

    no_later : (k : ℕ) (d : PlacedOffer) → at ≤ k → k < length table → meets need (get_or table k d).offer.now ≡ true → is_better (placed_of (get_or table k d)) (placed_of f) ≡ false
    no_later k d low high m =
        let same : get_or table at d ≡ f = get_or_from_slice_get table at f d there_it_is in
        let first : meets need (get_or table at d).offer.now ≡ true = ap (λ (o : PlacedOffer). meets need o.offer.now) same ∙ f_meets in
        ap (λ (o : PlacedOffer). is_better (placed_of (get_or table k d)) (placed_of o)) (sym same) ∙ later_not_better table need is.sorted at k d low high first m

    fails : (k : ℕ) (d : PlacedOffer) → k < length table → is_there left (get_or table k d).home && (meets need (get_or table k d).offer.now && is_better (placed_of (get_or table k d)) (placed_of f)) ≡ false
    fails k d high = elim (cases_lt k at) [
      | inl before ↦ by_count (is_there left (get_or table k d).home) (meets need (get_or table k d).offer.now) (is_better (placed_of (get_or table k d)) (placed_of f)) (fails_before_position (counts left need) table k d before)
      | inr from ↦ by_bools (is_there left (get_or table k d).home) (meets need (get_or table k d).offer.now) (is_better (placed_of (get_or table k d)) (placed_of f)) (no_later k d from high)
    ]

  -- the wire to the best candidate is the one to the first offer that counts
  pub wire_is : (from place : ℕ) → wire_of from place (option_map placed_of (slice_get table (first_place left need table))) ≡ wire_of from place (best (candidates offers need))
  wire_is from place = by (find (counts left need) table) (best (candidates offers need)) refl refl where
    any_is : list_any (counts left need) table ≡ list_any it_meets offers
    any_is = table_any bundles table is left it_meets

    by : (o : Option PlacedOffer) (b : Option Placed) → find (counts left need) table ≡ o → best (candidates offers need) ≡ b
        → wire_of from place (option_map placed_of (slice_get table (first_place left need table))) ≡ wire_of from place (best (candidates offers need))
    by None b found is_best =
        let none : not (list_any (counts left need) table) ≡ true = sym (find_none (counts left need) table) ∙ ap is_none found in
        let no_offer : list_any it_meets offers ≡ false = sym any_is ∙ from_not (list_any (counts left need) table) none in
        ap (λ o. wire_of from place (option_map placed_of o)) (sym (find_at (counts left need) table) ∙ found) ∙ ap (λ xs. wire_of from place (best xs)) (sym (kept_none it_meets offers no_offer))
    by (Some f) None found is_best =
        let none : list_any (counts left need) table ≡ false = any_is ∙ none_kept it_meets offers (no_best (candidates offers need) is_best) in
        let no : true ≡ false = sym (found_passes (counts left need) table f found) ∙ found_fails (counts left need) (counts left need) table f found none in
        absurd (cc)
    by (Some f) (Some b) found is_best =
        let it : IsBest (candidates offers need) b = some_best (candidates offers need) b is_best in
        let not_better : is_better b (placed_of f) ≡ false =
        among_fails it_meets (λ o. is_better o (placed_of f)) offers b (sym (table_any bundles table is left (λ o. it_meets o && is_better o (placed_of f))) ∙ first_is_best f found) it.is_one in
        let none_over : list_any (λ (o : PlacedOffer). is_there left o.home && (it_meets (placed_of o) && is_better (placed_of o) b)) table ≡ false =
        table_any bundles table is left (λ o. it_meets o && is_better o b) ∙ none_fails it_meets (λ o. is_better o b) offers it.none_better in
        let f_counts = and_parts (is_there left f.home) (meets need f.offer.now) (found_passes (counts left need) table f found) in
        let f_not_better : is_better (placed_of f) b ≡ false =
        last_false (is_there left f.home) (it_meets (placed_of f)) (is_better (placed_of f) b) f_counts.0 f_counts.1
        (found_fails (counts left need) (λ (o : PlacedOffer). is_there left o.home && (it_meets (placed_of o) && is_better (placed_of o) b)) table f found none_over) in
        ap (λ o. wire_of from place (option_map placed_of o)) (sym (find_at (counts left need) table) ∙ found)
        ∙ (wire_same from place (placed_of f) b f_not_better not_better ∙ ap (wire_of from place) (sym is_best))
