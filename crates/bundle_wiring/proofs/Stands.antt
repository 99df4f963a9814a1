-- Rounds: bundles are struck out, and the needs whose candidate was theirs look on.
use Rattle.std.proofs.Common.{◌≡◌, ℕ, zero, suc, ◌+◌, ◌<◌, ◌≤◌, ◌++◌, List, [], ◌∷◌, length, get_or, map, replicate, ap, sym, ◌∙◌, refl, subst, Bool, true, false, ◌&&◌, inl, inr, arith}
use Rattle.std.specs.Prelude.{◌||◌, filter, fold, is_none, not, if◌then◌else◌, slice_get, slice_set, IsTrue, Option, Some, None}
use Rattle.std.specs.List.{All, AllByRecursion, list_all, list_any, position_or_len}
use Rattle.std.proofs.lemmas.Bool.{and_left, and_parts, cases_eq, cases_lt}
use Rattle.std.proofs.lemmas.List.{get_or-replicate, get_or-set_other, get_or_default}
use Rattle.std.proofs.lemmas.List.Elements.{All-from_recursion}
use Rattle.std.proofs.lemmas.Option.{slice_get-get_or}
use Rattle.bundle_wiring.specs.Placing.{IsTable}
use Rattle.bundle_wiring.specs.Resolution.{Bundle, is_consistent, is_met, meets}
use Rattle.bundle_wiring.specs.Standings.{HoldsConsistent, IsPassed, Rests, Standing, all_standing, counts, first_place, is_gone, is_left, is_lost, is_there, lacks, left_of, needs_standing, settled, standing_of, struck}
use Rattle.bundle_wiring.specs.declared.placed_offers.PlacedOffer.{PlacedOffer}
use Rattle.bundle_wiring.specs.declared.standings.Stand.{Stand}
use Rattle.bundle_wiring.specs.declared.wiring.WireNeed.{WireNeed}
use Rattle.bundle_wiring.proofs.LeftBundles.{held_any, holds_at, lacking}
use Rattle.bundle_wiring.proofs.Places.{fails_before_position, passes_at_position, position_is, position_within}
use Rattle.bundle_wiring.proofs.Sets.{kept_all, met_wider, recursion_append, recursion_map, recursion_weaker}

-- ---- bundles that are struck out

abbrev pub count : List Bool → ℕ
count left = length (filter (λ b. b) left)

count_set : (left : List Bool) (home : ℕ) → is_left left home ≡ true → suc (count (slice_set left home false)) ≡ count left
count_set [] home h = absurd (cc)
count_set (true ∷ ls) zero h = refl
count_set (false ∷ ls) zero h = absurd (cc)
count_set (true ∷ ls) (suc home) h = ap suc (count_set ls home h)
count_set (false ∷ ls) (suc home) h = count_set ls home h

set_below : (left : List Bool) (home k : ℕ) → is_left (slice_set left home false) k ≡ true → is_left left k ≡ true
set_below [] home k h = h
set_below (l ∷ ls) zero zero h = absurd (cc)
set_below (l ∷ ls) zero (suc k) h = h
set_below (l ∷ ls) (suc home) zero h = h
set_below (l ∷ ls) (suc home) (suc k) h = set_below ls home k h

module _ (table : List PlacedOffer) where
  struck_below : (left : List Bool) (s : Standing) (k : ℕ) → is_left (struck table left s) k ≡ true → is_left left k ≡ true
  struck_below left s k h = by (is_lost left table s) h where
    by : (t : Bool) → is_left (if t then slice_set left s.home false else left) k ≡ true → is_left left k ≡ true
    by true g = set_below left s.home k g
    by false g = g

  -- what is left after a round was left before
  pub shrinks : (left : List Bool) (ss : List Standing) (k : ℕ) → is_left (fold (struck table) left ss) k ≡ true → is_left left k ≡ true
  shrinks left [] k h = h
  shrinks left (s ∷ ss) k h = struck_below left s k (shrinks (struck table left s) ss k h)

  struck_count : (left : List Bool) (s : Standing) (t : Bool) → is_lost left table s ≡ t → count (if t then slice_set left s.home false else left) ≤ count left
  struck_count left s true e = let one : suc (count (slice_set left s.home false)) ≡ count left = count_set left s.home (and_parts (is_left left s.home) (lacks table s) e).0 in omega (arith, one)
  struck_count left s false e = omega arith

  no_more : (left : List Bool) (ss : List Standing) → count (fold (struck table) left ss) ≤ count left
  no_more left [] = omega arith
  no_more left (s ∷ ss) =
      let rest : count (fold (struck table) (struck table left s) ss) ≤ count (struck table left s) = no_more (struck table left s) ss in
      let one : count (struck table left s) ≤ count left = struck_count left s (is_lost left table s) refl in
      omega (arith, rest, one)

  fewer_step : (left : List Bool) (s : Standing) (ss : List Standing) (t : Bool) → is_lost left table s ≡ t → (list_any (is_lost left table) ss ≡ true → count (fold (struck table) left ss) < count left)
      → t || list_any (is_lost left table) ss ≡ true → count (fold (struck table) (if t then slice_set left s.home false else left) ss) < count left
  fewer_step left s ss true e f g =
      let rest : count (fold (struck table) (slice_set left s.home false) ss) ≤ count (slice_set left s.home false) = no_more (slice_set left s.home false) ss in
      let one : suc (count (slice_set left s.home false)) ≡ count left = count_set left s.home (and_parts (is_left left s.home) (lacks table s) e).0 in
      omega (arith, rest, one)
  fewer_step left s ss false e f g = f g

  -- where a need is lost fewer are left
  pub fewer : (left : List Bool) (ss : List Standing) → list_any (is_lost left table) ss ≡ true → count (fold (struck table) left ss) < count left
  fewer left [] h = absurd (cc)
  fewer left (s ∷ ss) h = fewer_step left s ss (is_lost left table s) refl (fewer left ss) h

  module _ (bundles : List Bundle) (other : Bundle → Bool) where
    abbrev Held : List Bool → Type 0
    Held left = (k : ℕ) (d : Bundle) → k < length bundles → other (get_or bundles k d) ≡ true → is_left left k ≡ true

    abbrev IsOut : ℕ → Type 0
    IsOut home = (d : Bundle) → home < length bundles → other (get_or bundles home d) ≡ false

    held_one : (left : List Bool) (s : Standing) (t : Bool) → is_lost left table s ≡ t → (lacks table s ≡ true → IsOut s.home) → Held left → Held (if t then slice_set left s.home false else left)
    held_one left s false e out held = held
    held_one left s true e out held = λ k d low o. elim (cases_eq k s.home) [
      | inl same ↦
          let gone : other (get_or bundles s.home d) ≡ false = out (and_parts (is_left left s.home) (lacks table s) e).1 d (omega (arith, low, same)) in
          let no : true ≡ false = sym o ∙ (ap (λ n. other (get_or bundles n d)) same ∙ gone) in
          absurd (cc)
      | inr differs ↦ get_or-set_other left s.home k false false differs ∙ held k d low o
    ]

    held_all : (left : List Bool) (ss : List Standing) → AllByRecursion (λ (s : Standing). lacks table s ≡ true → IsOut s.home) ss → Held left → Held (fold (struck table) left ss)
    held_all left [] out held = held
    held_all left (s ∷ ss) out held = held_all (struck table left s) ss out.1 (held_one left s (is_lost left table s) refl out.0 held)

  list_all_at : (P : Bundle → Bool) (other : Bundle → Bool) (bs : List Bundle) → list_all P (filter other bs) ≡ true → (k : ℕ) (d : Bundle) → k < length bs → other (get_or bs k d) ≡ true → P (get_or bs k d) ≡ true
  list_all_at P other [] h k d low o = absurd (omega (arith, low))
  list_all_at P other (b ∷ bs) h zero d low o = by (other b) o h where
    by : (t : Bool) → t ≡ true → list_all P (if t then b ∷ filter other bs else filter other bs) ≡ true → P b ≡ true
    by true e g = (and_parts _ _ g).0
    by false e g = absurd (cc)
  list_all_at P other (b ∷ bs) h (suc k) d low o = list_all_at P other bs (rest (other b) h) k d (omega (arith, low)) o where
    rest : (t : Bool) → list_all P (if t then b ∷ filter other bs else filter other bs) ≡ true → list_all P (filter other bs) ≡ true
    rest true g = (and_parts _ _ g).1
    rest false g = g

  -- a round strikes out no bundle of a consistent set
  pub holds_on : (bundles : List Bundle) (left : List Bool) → IsTable bundles table → HoldsConsistent bundles left → HoldsConsistent bundles (fold (struck table) left (all_standing left table 0 bundles))
  holds_on bundles left is holds other h =
      held_all bundles other left (all_standing left table 0 bundles) (lacking bundles table is left (IsOut bundles other) 0 bundles out) (holds other h) where
        out : (k j : ℕ) (d : Bundle) → j ≡ 0 + k → k < length bundles → is_met (left_of left bundles) (get_or bundles k d) ≡ false → IsOut bundles other j
        out k j d e low unmet d' low' = by (other (get_or bundles j d')) refl where
          by : (t : Bool) → other (get_or bundles j d') ≡ t → t ≡ false
          by false o = refl
          by true o =
              let same : k ≡ j = omega (arith, e) in
              let met : is_met (filter other bundles) (get_or bundles j d') ≡ true = list_all_at (is_met (filter other bundles)) other bundles h j d' low' o in
              let wider : is_met (left_of left bundles) (get_or bundles j d') ≡ true =
              met_wider (filter other bundles) (left_of left bundles) (held_any other left 0 bundles (holds_at bundles left other holds h)) (get_or bundles j d') met in
              let there : get_or bundles j d' ≡ get_or bundles k d = ap (λ n. get_or bundles n d') (sym same) ∙ get_or_default bundles k d' d low in
              let no : true ≡ false = sym wider ∙ (ap (is_met (left_of left bundles)) there ∙ unmet) in
              absurd (cc)

-- ---- where needs stand

counts_before : (left less : List Bool) (need : WireNeed) (o : PlacedOffer) → ((k : ℕ) → is_left less k ≡ true → is_left left k ≡ true) → counts left need o ≡ false → counts less need o ≡ false
counts_before left less need o below h = by (o.home) refl where
  still : (t u m : Bool) → (u ≡ true → t ≡ true) → t && m ≡ false → u && m ≡ false
  still true true m f e = e
  still true false m f e = refl
  still false true m f e = let no : false ≡ true = f refl in absurd (cc)
  still false false m f e = refl

  below_there : (home : Option ℕ) → is_there less home ≡ true → is_there left home ≡ true
  below_there None e = refl
  below_there (Some k) e = below k e

  by : (home : Option ℕ) → o.home ≡ home → counts less need o ≡ false
  by home e = still (is_there left o.home) (is_there less o.home) (meets need o.offer.now) (below_there o.home) h

rests_at : (left less : List Bool) (table : List PlacedOffer) (s : Stand) → ((k : ℕ) → is_left less k ≡ true → is_left left k ≡ true) → s.at ≡ first_place left s.need.now table → Rests less table s
rests_at left less table s below e = record {
  passed = λ k d low. counts_before left less s.need.now (get_or table k d) below (fails_before_position (counts left s.need.now) table k d (omega (arith, low, e)));
  within = let it : first_place left s.need.now table ≤ length table = position_within (counts left s.need.now) table in omega (arith, e, it);
  meets_it = λ d low.
      ap (λ n. meets s.need.now (get_or table n d).offer.now) e
      ∙ (and_parts _ _ (passes_at_position (counts left s.need.now) table d (omega (arith, low, e)))).1;
}

abbrev IsFirst : List Bool → List PlacedOffer → Standing → Type 0
IsFirst left table s = s.at ≡ first_place left s.need table

needs_first : (left : List Bool) (table : List PlacedOffer) (home from place : ℕ) (needs : List WireNeed) → AllByRecursion (IsFirst left table) (needs_standing left table home from place needs)
needs_first left table home from place [] = tt
needs_first left table home from place (n ∷ ns) = (refl, needs_first left table home from (place + 1) ns)

all_first : (left : List Bool) (table : List PlacedOffer) (home : ℕ) (bs : List Bundle) → AllByRecursion (IsFirst left table) (all_standing left table home bs)
all_first left table home [] = tt
all_first left table home (b ∷ bs) = recursion_append (IsFirst left table) (needs_standing left table home b.0 0 b.1.needs) (all_standing left table (home + 1) bs) (needs_first left table home b.0 0 b.1.needs) (all_first left table (home + 1) bs)

-- after a round each need may stand where it did
pub all_rest : (left less : List Bool) (table : List PlacedOffer) (bundles : List Bundle) (stands : List Stand) → ((k : ℕ) → is_left less k ≡ true → is_left left k ≡ true)
    → map standing_of stands ≡ all_standing left table 0 bundles → All (Rests less table) stands
all_rest left less table bundles stands below is =
    All-from_recursion (Rests less table) stands
    (recursion_weaker (λ (s : Stand). s.at ≡ first_place left s.need.now table) (Rests less table) stands (λ s e. rests_at left less table s below e)
    (recursion_map (IsFirst left table) standing_of stands (subst (AllByRecursion (IsFirst left table)) (sym is) (all_first left table 0 bundles))))

-- ---- needs that look on

abbrev restood : List Bool → List PlacedOffer → Standing → Standing
restood left table s = record s { at = first_place left s.need table }

map_settled : (left : List Bool) (table : List PlacedOffer) (stands : List Stand) → map standing_of (map (settled left table) stands) ≡ map (restood left table) (map standing_of stands)
map_settled left table [] = refl
map_settled left table (s ∷ ss) = ap (λ xs. standing_of (settled left table s) ∷ xs) (map_settled left table ss)

needs_restood : (left less : List Bool) (table : List PlacedOffer) (home from place : ℕ) (needs : List WireNeed) → map (restood less table) (needs_standing left table home from place needs) ≡ needs_standing less table home from place needs
needs_restood left less table home from place [] = refl
needs_restood left less table home from place (n ∷ ns) =
    ap (λ xs. record { home = home; from = from; place = place; need = n; at = first_place less n table } ∷ xs) (needs_restood left less table home from (place + 1) ns)

map_append : {X Y : Type 0} (f : X → Y) (xs ys : List X) → map f (xs ++ ys) ≡ map f xs ++ map f ys
map_append f [] ys = refl
map_append f (x ∷ xs) ys = ap (λ zs. f x ∷ zs) (map_append f xs ys)

all_restood : (left less : List Bool) (table : List PlacedOffer) (home : ℕ) (bs : List Bundle) → map (restood less table) (all_standing left table home bs) ≡ all_standing less table home bs
all_restood left less table home [] = refl
all_restood left less table home (b ∷ bs) =
    map_append (restood less table) (needs_standing left table home b.0 0 b.1.needs) (all_standing left table (home + 1) bs)
    ∙ (ap (λ xs. xs ++ map (restood less table) (all_standing left table (home + 1) bs)) (needs_restood left less table home b.0 0 b.1.needs)
    ∙ ap (λ xs. needs_standing less table home b.0 0 b.1.needs ++ xs) (all_restood left less table (home + 1) bs))

pub looked_on : (left less : List Bool) (table : List PlacedOffer) (bundles : List Bundle) (stands : List Stand) → map standing_of stands ≡ all_standing left table 0 bundles
    → map standing_of (map (settled less table) stands) ≡ all_standing less table 0 bundles
looked_on left less table bundles stands is = map_settled less table stands ∙ (ap (map (restood less table)) is ∙ all_restood left less table 0 bundles)

-- a need whose candidate isn't gone stands where it is to stand
pub stays : (left : List Bool) (table : List PlacedOffer) (s : Stand) → Rests left table s → is_gone left (slice_get table s.at) ≡ false → s ≡ settled left table s
stays left table s rest h = ap (λ n. record s { at = n }) (sym (position_is (counts left s.need.now) table s.at rest.within rest.passed it_counts)) where
  there : (home : Option ℕ) → not (is_there left home) ≡ false → is_there left home ≡ true
  there home e = by (is_there left home) e where
    by : (t : Bool) → not t ≡ false → t ≡ true
    by true g = refl
    by false g = absurd (cc)

  both : (a b : Bool) → a ≡ true → b ≡ true → a && b ≡ true
  both true b e g = g
  both false b e g = absurd (cc)

  it_counts : (d : PlacedOffer) → s.at < length table → counts left s.need.now (get_or table s.at d) ≡ true
  it_counts d low =
      let here : slice_get table s.at ≡ Some (get_or table s.at d) = slice_get-get_or table s.at d low in
      let is_here : is_there left (get_or table s.at d).home ≡ true = there (get_or table s.at d).home (sym (ap (is_gone left) here) ∙ h) in
      both (is_there left (get_or table s.at d).home) (meets s.need.now (get_or table s.at d).offer.now) is_here (rest.meets_it d low)

-- ---- the beginning

pub all_hold : (bundles : List Bundle) → HoldsConsistent bundles (replicate (length bundles) true)
all_hold bundles other h k d low o = get_or-replicate (length bundles) k true false low
