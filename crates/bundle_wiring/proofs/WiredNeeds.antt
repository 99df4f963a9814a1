-- Needs that stand at the first offer that counts are wired to the best.
use Rattle.std.proofs.Common.{◌≡◌, ℕ, suc, ◌+◌, ◌≤◌, ◌++◌, List, [], ◌∷◌, length, map, take, drop, get_or, ap, sym, ◌∙◌, refl, Bool, true, false, Option, Some, None, arith, add-one, ◌-◌, ◌<◌, append_assoc, length-append, length-drop, drop-cons}
use Rattle.std.specs.Prelude.{is_some, option_map, slice_get, slice_range}
use Rattle.std.specs.List.{list_any}
use Rattle.std.proofs.Math.Seq.{take-append_seam, drop-append_seam}
use Rattle.std.proofs.lemmas.List.{drop-drop, drop-map, length-map, map-append, take-map}
use Rattle.bundle_wiring.specs.ByNeed.{AreWired, Wired, wired_in, wired_to}
use Rattle.bundle_wiring.specs.Placing.{IsTable, placed_of, some_placed}
use Rattle.bundle_wiring.specs.Resolution.{Bundle, Placed, all_placed, best, candidates, has_candidate, is_met, meets, wire_of}
use Rattle.bundle_wiring.specs.Standings.{IsSettled, Standing, all_standing, first_place, is_lost, left_of, needs_standing, standing_of, stood_in, target_at, wired_at}
use Rattle.bundle_wiring.specs.declared.placed_offers.PlacedOffer.{PlacedOffer}
use Rattle.bundle_wiring.specs.declared.resolved.Wire.{Wire}
use Rattle.bundle_wiring.specs.declared.standings.Stand.{Stand}
use Rattle.bundle_wiring.specs.declared.wiring.WireNeed.{WireNeed}
use Rattle.bundle_wiring.proofs.BestOffers.{no_best}
use Rattle.bundle_wiring.proofs.Candidates.{kept_none, none_kept, placed_candidate, wire_is}
use Rattle.bundle_wiring.proofs.LeftBundles.{all_met, greatest, left_is}

-- ---- needs in the order of their bundles

length_needs : (left : List Bool) (table : List PlacedOffer) (home from place : ℕ) (needs : List WireNeed) → length (needs_standing left table home from place needs) ≡ length needs
length_needs left table home from place [] = refl
length_needs left table home from place (need ∷ needs) = ap suc (length_needs left table home from (place + 1) needs)

stood_needs : (left : List Bool) (table : List PlacedOffer) (home from place : ℕ) (needs : List WireNeed)
    → map (wired_at table) (needs_standing left table home from place needs) ≡ map (λ (need : WireNeed). (need, target_at table (first_place left need table))) needs
stood_needs left table home from place [] = refl
stood_needs left table home from place (need ∷ needs) = ap (λ ws. (need, target_at table (first_place left need table)) ∷ ws) (stood_needs left table home from (place + 1) needs)

module _ (left : List Bool) (table : List PlacedOffer) (home : ℕ) (b : Bundle) (bs : List Bundle) (stands : List Stand) (is : map standing_of stands ≡ all_standing left table home (b ∷ bs)) where
  abbrev own : List Standing
  own = needs_standing left table home b.0 0 b.1.needs

  abbrev others : List Standing
  others = all_standing left table (home + 1) bs

  its_length : length own ≡ length b.1.needs
  its_length = length_needs left table home b.0 0 b.1.needs

  -- the needs of the first bundle stand first
  pub enough : length b.1.needs ≤ length stands
  enough = omega (arith, its_length, sym (length-map stands standing_of) ∙ (ap length is ∙ length-append own others))

  pub own_stood : map (wired_at table) (map standing_of (take (length b.1.needs) stands)) ≡ stood_in left table b
  own_stood =
      ap (map (wired_at table)) (sym (take-map standing_of (length b.1.needs) stands) ∙ (ap (λ (n : ℕ). take n (map standing_of stands)) (sym its_length) ∙ (ap (take (length own)) is ∙ take-append_seam own others)))
      ∙ stood_needs left table home b.0 0 b.1.needs

  pub rest_stand : map standing_of (drop (length b.1.needs) stands) ≡ others
  rest_stand =
      sym (drop-map standing_of (length b.1.needs) stands) ∙ (ap (λ (n : ℕ). drop n (map standing_of stands)) (sym its_length) ∙ (ap (drop (length own)) is ∙ drop-append_seam own others))

-- the same behind the needs that are told
module _ (left : List Bool) (table : List PlacedOffer) (bs : List Bundle) (stands : List Stand) (at i : ℕ) (d : Bundle) (low : i < length bs)
    (is : map standing_of (drop at stands) ≡ all_standing left table i (drop i bs)) where
  abbrev bundle : Bundle
  bundle = get_or bs i d

  abbrev count : ℕ
  count = length bundle.1.needs

  next : map standing_of (drop at stands) ≡ all_standing left table i (bundle ∷ drop (i + 1) bs)
  next = is ∙ (ap (all_standing left table i) (drop-cons bs i d low) ∙ ap (λ (n : ℕ). all_standing left table i (bundle ∷ drop n bs)) (sym (add-one i)))

  pub end_within : at ≤ length stands → at + count ≤ length stands
  end_within within = let has : count ≤ length (drop at stands) = enough left table i bundle (drop (i + 1) bs) (drop at stands) next in omega (arith, within, has, length-drop at stands)

  pub told_stood : map (wired_at table) (map standing_of (slice_range stands at (at + count))) ≡ stood_in left table bundle
  told_stood =
      let same : (at + count) - at ≡ count = omega arith in
      ap (λ (n : ℕ). map (wired_at table) (map standing_of (take n (drop at stands)))) same ∙ own_stood left table i bundle (drop (i + 1) bs) (drop at stands) next

  pub behind_stand : map standing_of (drop (at + count) stands) ≡ all_standing left table (i + 1) (drop (i + 1) bs)
  behind_stand = ap (map standing_of) (sym (drop-drop count at stands)) ∙ rest_stand left table i bundle (drop (i + 1) bs) (drop at stands) next

-- one more row is told
pub told_more : {A B C : Type 0} (g : A → C) (h : B → C) (done new : List A) (x : A) (bs : List B) (i : ℕ) (d : B) (all : List C) → i < length bs → new ≡ done ++ x ∷ [] → g x ≡ h (get_or bs i d)
    → map g done ++ map h (drop i bs) ≡ all → map g new ++ map h (drop (i + 1) bs) ≡ all
told_more g h done new x bs i d all low more same told =
    ap (λ ys. map g ys ++ map h (drop (i + 1) bs)) more
    ∙ (ap (λ zs. zs ++ map h (drop (i + 1) bs)) (map-append g done (x ∷ []))
    ∙ (append_assoc (map g done) (g x ∷ []) (map h (drop (i + 1) bs))
    ∙ (ap (λ z. map g done ++ (z ∷ map h (drop (i + 1) bs))) same
    ∙ (ap (λ (n : ℕ). map g done ++ (h (get_or bs i d) ∷ map h (drop n bs))) (add-one i)
    ∙ (ap (λ ys. map g done ++ map h ys) (sym (drop-cons bs i d low)) ∙ told)))))

-- ---- the bundle to which a need is wired

first_to : List Wire → Option ℕ
first_to [] = None
first_to (w ∷ ws) = Some w.to

to_of : (from place : ℕ) (o : Option Placed) → first_to (wire_of from place o) ≡ option_map (λ (p : Placed). p.to) o
unfolding first_to
to_of from place None = refl
to_of from place (Some o) = refl

placed_to : (o : Option PlacedOffer) → option_map (λ (p : Placed). p.to) (option_map placed_of o) ≡ option_map (λ (p : PlacedOffer). p.to) o
placed_to None = refl
placed_to (Some o) = refl

module _ (bundles : List Bundle) (table : List PlacedOffer) (is : IsTable bundles table) (left : List Bool) where
  target_is : (need : WireNeed) → target_at table (first_place left need table) ≡ wired_to (left_of left bundles) need
  target_is need =
      sym (placed_to (slice_get table (first_place left need table)))
      ∙ (sym (to_of 0 0 (option_map placed_of (slice_get table (first_place left need table))))
      ∙ (ap first_to (wire_is bundles table is left need 0 0) ∙ to_of 0 0 (best (candidates (all_placed (left_of left bundles)) need))))

  needs_wired : (needs : List WireNeed)
      → map {B = Wired} (λ (need : WireNeed). (need, target_at table (first_place left need table))) needs ≡ map {B = Wired} (λ (need : WireNeed). (need, wired_to (left_of left bundles) need)) needs
  needs_wired [] = refl
  needs_wired (need ∷ needs) =
      let with_needs : Option ℕ → List Wired = λ to. (need, to) ∷ map (λ (n : WireNeed). (n, target_at table (first_place left n table))) needs in
      let behind : List Wired → List Wired = λ ws. (need, wired_to (left_of left bundles) need) ∷ ws in
      ap with_needs (target_is need) ∙ ap behind (needs_wired needs)

  bundles_wired : (bs : List Bundle) → map (stood_in left table) bs ≡ map (wired_in (left_of left bundles)) bs
  bundles_wired [] = refl
  bundles_wired (b ∷ bs) = ap (λ (ws : List Wired). ws ∷ map (stood_in left table) bs) (needs_wired b.1.needs) ∙ ap (λ ws. wired_in (left_of left bundles) b ∷ ws) (bundles_wired bs)

pub are_wired : (bundles : List Bundle) (table : List PlacedOffer) (left : List Bool) (stands : List Stand) (wired : List (List Wired)) → IsTable bundles table → IsSettled bundles table left stands
    → wired ≡ map (stood_in left table) bundles → AreWired bundles wired
are_wired bundles table left stands wired is end told =
    let met = all_met bundles table is left 0 bundles (ap (list_any (is_lost left table)) (sym end.stand) ∙ end.none_lost) in
    let set = left_is bundles left end.holds met in (
      is_met (left_of left bundles),
      greatest bundles left end.holds met,
      told ∙ (bundles_wired bundles table is left bundles ∙ ap (λ (those : List Bundle). map (wired_in those) bundles) set),
    )

-- ---- a need that has a candidate

some_from : (offers : List Placed) (need : WireNeed) (b : Option Placed) → best (candidates offers need) ≡ b → is_some (option_map (λ (o : Placed). o.to) b) ≡ some_placed offers need
some_from offers need None e = sym (none_kept (λ (o : Placed). meets need o.offer) offers (no_best (candidates offers need) e))
some_from offers need (Some o) e = by (some_placed offers need) refl where
  by : (t : Bool) → some_placed offers need ≡ t → true ≡ t
  by true h = refl
  by false h =
      let no : Some o ≡ None = sym e ∙ ap best (kept_none (λ (p : Placed). meets need p.offer) offers h) in
      absurd (cc)

pub wired_candidate : (set : List Bundle) (need : WireNeed) → is_some (wired_to set need) ≡ has_candidate set need
wired_candidate set need = some_from (all_placed set) need (best (candidates (all_placed set) need)) refl ∙ placed_candidate set need
