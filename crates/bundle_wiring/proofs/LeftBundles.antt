-- What is left when no need is lost is the greatest consistent set, and its needs have their wires.
use Rattle.std.proofs.Common.{◌≡◌, ℕ, zero, suc, ◌+◌, ◌<◌, ◌++◌, List, [], ◌∷◌, length, get_or, map, ap, sym, ◌∙◌, refl, subst, Bool, true, false, ◌&&◌, arith}
use Rattle.std.specs.Prelude.{◌||◌, filter, flat_map, is_none, not, option_map, if◌then◌else◌, slice_get, IsTrue}
use Rattle.std.specs.List.{AllByRecursion, list_all, list_any}
use Rattle.std.proofs.lemmas.Bool.{and_right, or_parts}
use Rattle.std.proofs.lemmas.Grind.{flat_map-append}
use Rattle.std.proofs.lemmas.List.Folds.{list_any-append}
use Rattle.bundle_wiring.specs.Placing.{IsTable, placed_of}
use Rattle.bundle_wiring.specs.Resolution.{Bundle, IsGreatest, all_placed, has_candidate, is_consistent, is_met, wire_of, wires_from, wires_of}
use Rattle.bundle_wiring.specs.Standings.{HoldsConsistent, Standing, all_standing, first_place, is_left, is_lost, lacks, left_from, left_of, needs_standing, wire_at}
use Rattle.bundle_wiring.specs.declared.placed_offers.PlacedOffer.{PlacedOffer}
use Rattle.bundle_wiring.specs.declared.resolved.Wire.{Wire}
use Rattle.bundle_wiring.specs.declared.wiring.WireNeed.{WireNeed}
use Rattle.bundle_wiring.proofs.Candidates.{no_candidate, wire_is}
use Rattle.bundle_wiring.proofs.Sets.{all_if, and_both, kept_all, met_wider, recursion_append, same_step, wider_step}

-- ---- what is left, and what passes a test

-- another set lies in what is left
pub held_any : (other : Bundle → Bool) (left : List Bool) (home : ℕ) (bs : List Bundle) → ((k j : ℕ) (d : Bundle) → j ≡ home + k → k < length bs → other (get_or bs k d) ≡ true → is_left left j ≡ true)
    → (P : Bundle → Bool) → list_any P (filter other bs) ≡ true → list_any P (left_from home left bs) ≡ true
held_any other left home [] f P h = h
held_any other left home (b ∷ bs) f P h =
    wider_step P b (filter other bs) (left_from (home + 1) left bs) (other b) (is_left left home) (f 0 home b (omega arith) (omega arith))
    (held_any other left (home + 1) bs (λ k j d e low. f (suc k) j d (omega (arith, e)) (omega (arith, low))) P) h

left_any : (test : Bundle → Bool) (left : List Bool) (home : ℕ) (bs : List Bundle) → ((k j : ℕ) (d : Bundle) → j ≡ home + k → k < length bs → is_left left j ≡ true → test (get_or bs k d) ≡ true)
    → (P : Bundle → Bool) → list_any P (left_from home left bs) ≡ true → list_any P (filter test bs) ≡ true
left_any test left home [] f P h = h
left_any test left home (b ∷ bs) f P h =
    wider_step P b (left_from (home + 1) left bs) (filter test bs) (is_left left home) (test b) (f 0 home b (omega arith) (omega arith))
    (left_any test left (home + 1) bs (λ k j d e low. f (suc k) j d (omega (arith, e)) (omega (arith, low))) P) h

same_bool : (p q : Bool) → (p ≡ true → q ≡ true) → (q ≡ true → p ≡ true) → p ≡ q
same_bool true q f g = sym (f refl)
same_bool false true f g = g refl
same_bool false false f g = refl

left_same : (test : Bundle → Bool) (left : List Bool) (home : ℕ) (bs : List Bundle) → ((k j : ℕ) (d : Bundle) → j ≡ home + k → k < length bs → is_left left j ≡ true → test (get_or bs k d) ≡ true)
    → ((k j : ℕ) (d : Bundle) → j ≡ home + k → k < length bs → test (get_or bs k d) ≡ true → is_left left j ≡ true) → left_from home left bs ≡ filter test bs
left_same test left home [] f g = refl
left_same test left home (b ∷ bs) f g =
    same_step b (left_from (home + 1) left bs) (filter test bs) (is_left left home) (test b)
    (same_bool (is_left left home) (test b) (f 0 home b (omega arith) (omega arith)) (g 0 home b (omega arith) (omega arith)))
    (left_same test left (home + 1) bs (λ k j d e low. f (suc k) j d (omega (arith, e)) (omega (arith, low))) (λ k j d e low. g (suc k) j d (omega (arith, e)) (omega (arith, low))))

-- each bundle that is left is met
abbrev AreMet : List Bundle → List Bool → Type 0
AreMet bundles left = (k j : ℕ) (d : Bundle) → j ≡ 0 + k → k < length bundles → is_left left j ≡ true → is_met (left_of left bundles) (get_or bundles k d) ≡ true

pub holds_at : (bundles : List Bundle) (left : List Bool) (other : Bundle → Bool) → HoldsConsistent bundles left → IsTrue (is_consistent (filter other bundles))
    → (k j : ℕ) (d : Bundle) → j ≡ 0 + k → k < length bundles → other (get_or bundles k d) ≡ true → is_left left j ≡ true
holds_at bundles left other holds h k j d e low o = let same : k ≡ j = omega (arith, e) in subst (λ n. is_left left n ≡ true) same (holds other h k d low o)

module _ (bundles : List Bundle) (left : List Bool) (holds : HoldsConsistent bundles left) (met : AreMet bundles left) where
  abbrev set : List Bundle
  set = left_of left bundles

  consistent : IsTrue (is_consistent (filter (is_met set) bundles))
  consistent = kept_all (is_met set) (is_met (filter (is_met set) bundles)) bundles (met_wider set (filter (is_met set) bundles) (left_any (is_met set) left 0 bundles met))

  pub greatest : IsGreatest bundles (is_met set)
  greatest = record {
    consistent = consistent;
    greatest = λ other h. all_if other (is_met set) bundles (λ k d low o. met k k d (omega arith) low (holds other h k d low o));
  }

  pub left_is : left_of left bundles ≡ filter (is_met set) bundles
  left_is = left_same (is_met set) left 0 bundles met (holds_at bundles left (is_met set) holds consistent)

-- ---- needs that lack a candidate

not_or : (o h : Bool) → not o && not h ≡ not (o || h)
not_or true h = refl
not_or false h = refl

true_of_not : (t : Bool) → not t ≡ false → t ≡ true
true_of_not true h = refl
true_of_not false h = absurd (cc)

false_of_not : (t : Bool) → not t ≡ true → t ≡ false
false_of_not true h = absurd (cc)
false_of_not false h = refl

first_false : (a b : Bool) → a ≡ false → a && b ≡ false
first_false true b h = absurd (cc)
first_false false b h = refl

with_true : (t l : Bool) → t ≡ true → t && l ≡ false → l ≡ false
with_true true l h k = k
with_true false l h k = absurd (cc)

module _ (bundles : List Bundle) (table : List PlacedOffer) (is : IsTable bundles table) (left : List Bool) where
  abbrev those : List Bundle
  those = left_of left bundles

  abbrev has : WireNeed → Bool
  has need = need.optional || has_candidate those need

  abbrev stood : ℕ → ℕ → ℕ → WireNeed → Standing
  stood home from place need = record { home = home; from = from; place = place; need = need; at = first_place left need table }

  lacks_is : (home from place : ℕ) (need : WireNeed) → lacks table (stood home from place need) ≡ not (has need)
  lacks_is home from place need = ap (λ b. not need.optional && b) (no_candidate bundles table is left need) ∙ not_or need.optional (has_candidate those need)

  lacking_needs : (Q : ℕ → Type 0) (home from place : ℕ) (needs : List WireNeed) → (list_all has needs ≡ false → Q home)
      → AllByRecursion (λ (s : Standing). lacks table s ≡ true → Q s.home) (needs_standing left table home from place needs)
  lacking_needs Q home from place [] f = tt
  lacking_needs Q home from place (n ∷ ns) f = (
    (λ l. f (first_false (has n) (list_all has ns) (false_of_not (has n) (sym (lacks_is home from place n) ∙ l)))),
    lacking_needs Q home from (place + 1) ns (λ h. f (and_right (has n) (list_all has ns) h)),
  )

  -- a need that lacks a candidate is of a bundle that isn't met
  pub lacking : (Q : ℕ → Type 0) (home : ℕ) (bs : List Bundle) → ((k j : ℕ) (d : Bundle) → j ≡ home + k → k < length bs → is_met those (get_or bs k d) ≡ false → Q j)
      → AllByRecursion (λ (s : Standing). lacks table s ≡ true → Q s.home) (all_standing left table home bs)
  lacking Q home [] f = tt
  lacking Q home (b ∷ bs) f =
      recursion_append (λ (s : Standing). lacks table s ≡ true → Q s.home) (needs_standing left table home b.0 0 b.1.needs) (all_standing left table (home + 1) bs)
      (lacking_needs Q home b.0 0 b.1.needs (f 0 home b (omega arith) (omega arith)))
      (lacking Q (home + 1) bs (λ k j d e low. f (suc k) j d (omega (arith, e)) (omega (arith, low))))

  met_needs : (home from place : ℕ) (needs : List WireNeed) → is_left left home ≡ true → list_any (is_lost left table) (needs_standing left table home from place needs) ≡ false → list_all has needs ≡ true
  met_needs home from place [] l h = refl
  met_needs home from place (n ∷ ns) l h =
      let parts = or_parts _ _ h in
      let lacked : lacks table (stood home from place n) ≡ false = with_true (is_left left home) (lacks table (stood home from place n)) l parts.0 in
      and_both (has n) (list_all has ns) (true_of_not (has n) (sym (lacks_is home from place n) ∙ lacked)) (met_needs home from (place + 1) ns l parts.1)

  -- where none is lost each bundle that is left is met
  pub all_met : (home : ℕ) (bs : List Bundle) → list_any (is_lost left table) (all_standing left table home bs) ≡ false
      → (k j : ℕ) (d : Bundle) → j ≡ home + k → k < length bs → is_left left j ≡ true → is_met those (get_or bs k d) ≡ true
  all_met home [] h k j d e low l = absurd (omega (arith, low))
  all_met home (b ∷ bs) h zero j d e low l =
      let here : j ≡ home = omega (arith, e) in
      let parts = or_parts _ _ (sym (list_any-append (is_lost left table) (needs_standing left table home b.0 0 b.1.needs) (all_standing left table (home + 1) bs)) ∙ h) in
      met_needs home b.0 0 b.1.needs (subst (λ n. is_left left n ≡ true) here l) parts.0
  all_met home (b ∷ bs) h (suc k) j d e low l =
      let parts = or_parts _ _ (sym (list_any-append (is_lost left table) (needs_standing left table home b.0 0 b.1.needs) (all_standing left table (home + 1) bs)) ∙ h) in
      all_met (home + 1) bs parts.1 k j d (omega (arith, e)) (omega (arith, low)) l

  -- ---- the wires

  abbrev wires_as : Bool → List Wire → List Wire
  wires_as t ws = if t then ws else []

  wire_step : (t : Bool) (w : List Wire) (ws : List Wire) → wires_as t w ++ wires_as t ws ≡ wires_as t (w ++ ws)
  wire_step true w ws = refl
  wire_step false w ws = refl

  needs_wires : (home from place : ℕ) (needs : List WireNeed) → flat_map (wire_at left table) (needs_standing left table home from place needs) ≡ wires_as (is_left left home) (wires_from (all_placed those) from place needs)
  needs_wires home from place [] = none (is_left left home) where
    none : (t : Bool) → [] ≡ wires_as t []
    none true = refl
    none false = refl
  needs_wires home from place (n ∷ ns) =
      ap (λ ws. wire_at left table (stood home from place n) ++ ws) (needs_wires home from (place + 1) ns)
      ∙ (ap (λ w. wires_as (is_left left home) w ++ wires_as (is_left left home) (wires_from (all_placed those) from (place + 1) ns)) (wire_is bundles table is left n from place)
      ∙ wire_step (is_left left home) _ (wires_from (all_placed those) from (place + 1) ns))

  abbrev wires_in : Bundle → List Wire
  wires_in b = wires_from (all_placed those) b.0 0 b.1.needs

  left_step : (b : Bundle) (bs : List Bundle) (t : Bool) → wires_as t (wires_in b) ++ flat_map wires_in bs ≡ flat_map wires_in (if t then b ∷ bs else bs)
  left_step b bs true = refl
  left_step b bs false = refl

  pub all_wires : (home : ℕ) (bs : List Bundle) → flat_map (wire_at left table) (all_standing left table home bs) ≡ flat_map wires_in (left_from home left bs)
  all_wires home [] = refl
  all_wires home (b ∷ bs) =
      flat_map-append (wire_at left table) (needs_standing left table home b.0 0 b.1.needs) (all_standing left table (home + 1) bs)
      ∙ (ap (λ ws. ws ++ flat_map (wire_at left table) (all_standing left table (home + 1) bs)) (needs_wires home b.0 0 b.1.needs)
      ∙ (ap (λ ws. wires_as (is_left left home) (wires_in b) ++ ws) (all_wires (home + 1) bs) ∙ left_step b (left_from (home + 1) left bs) (is_left left home)))
