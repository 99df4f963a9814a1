-- That the lowest place over the interfaces is the first of those that are consumed.
use Rattle.std.proofs.Common.{◌≡◌, ◌<◌, ◌≤◌, ℕ, zero, suc, ◌+◌, List, [], ◌∷◌, length, get_or, drop, drop-cons, add-one, ap, sym, ◌∙◌, refl, Bool, true, false, cond, ◌||◌, arith, inl, inr, ◌⊎◌, Option, Some, None}
use Rattle.std.specs.Prelude.{min, ◌==◌}
use Rattle.std.proofs.lemmas.Bool.{cases_lt, eq-eqb, eqb-true, or_cases, false≢true}
use Rattle.std.proofs.lemmas.List.{length-map, get_or_past}
use Rattle.component_dto.specs.declared.description.Description.{Description}
use Rattle.level_order.specs.Links.{AreLinks}
use Rattle.level_order.specs.Lowest.{lower, lowest_in, lowest_over}
use Rattle.level_order.specs.Uses.{all_uses, uses_of}
use Rattle.level_order.specs.Ways.{first_at, has, is_at}
use Rattle.level_order.proofs.PathLemmas.{lowest_place}
use Rattle.level_order.proofs.PlaceLemmas.{rising_all_uses}
use Rattle.level_order.proofs.StepLemmas.{or_first, or_later}

none_some : {X : Type 0} {x : X} → None ≡ Some x → ⊥
none_some e = cc

some_same : {m n : ℕ} → Some m ≡ Some n → m ≡ n
some_same e = cc

at_some : (o : Option ℕ) (r : ℕ) → is_at o r ≡ true → o ≡ Some r
at_some None r e = absurd (false≢true e)
at_some (Some m) r e = ap Some (eqb-true m r e)

some_at : (o : Option ℕ) (r : ℕ) → o ≡ Some r → is_at o r ≡ true
some_at None r e = absurd (none_some e)
some_at (Some m) r e = eq-eqb m r (some_same e)

-- ---- the lower of two

pub lower_none : (o : Option ℕ) → lower o None ≡ o
lower_none None = refl
lower_none (Some m) = refl

pub lower_assoc : (a b c : Option ℕ) → lower (lower a b) c ≡ lower a (lower b c)
lower_assoc None b c = refl
lower_assoc (Some a) None c = refl
lower_assoc (Some a) (Some b) None = refl
lower_assoc (Some a) (Some b) (Some c) = ap Some (omega arith)

lower_of : (a b : Option ℕ) (p : ℕ) → lower a b ≡ Some p → (a ≡ Some p) ⊎ (b ≡ Some p)
lower_of None b p e = inr e
lower_of (Some a) None p e = inl e
lower_of (Some a) (Some b) p e = elim (cases_lt b a) [
  | inl below ↦ inr (ap Some (omega (arith, below, some_same e)))
  | inr above ↦ inl (ap Some (omega (arith, above, some_same e)))
]

lower_first : (a b : Option ℕ) (p q : ℕ) → a ≡ Some p → p ≤ q → (r : ℕ) × (lower a b ≡ Some r) × (r ≤ q)
lower_first None b p q e low = absurd (none_some e)
lower_first (Some a) None p q e low = (a, refl, omega (arith, some_same e, low))
lower_first (Some a) (Some b) p q e low = (min a b, refl, omega (arith, some_same e, low))

lower_second : (a b : Option ℕ) (p q : ℕ) → b ≡ Some p → p ≤ q → (r : ℕ) × (lower a b ≡ Some r) × (r ≤ q)
lower_second None b p q e low = (p, e, low)
lower_second (Some a) None p q e low = absurd (none_some e)
lower_second (Some a) (Some b) p q e low = (min a b, refl, omega (arith, some_same e, low))

-- ---- the lowest of some places

in_sound : (steps : List (Option ℕ)) (left : ℕ) (places : List ℕ) (p : ℕ) → lowest_in steps left places ≡ Some p → (has places p ≡ true) × (is_at (get_or steps p None) left ≡ true)
in_sound steps left [] p e = absurd (none_some e)
in_sound steps left (x ∷ places) p e = cases (λ is. later (in_sound steps left places p is)) (is_at (get_or steps x None) left) refl e where
  later : (has places p ≡ true) × (is_at (get_or steps p None) left ≡ true) → (has (x ∷ places) p ≡ true) × (is_at (get_or steps p None) left ≡ true)
  later rest = (or_later (x == p) (has places p) rest.0, rest.1)

  cases : (lowest_in steps left places ≡ Some p → (has (x ∷ places) p ≡ true) × (is_at (get_or steps p None) left ≡ true)) → (b : Bool) → is_at (get_or steps x None) left ≡ b → cond b (lower (Some x) (lowest_in steps left places)) (lowest_in steps left places) ≡ Some p → (has (x ∷ places) p ≡ true) × (is_at (get_or steps p None) left ≡ true)
  cases rec true at is = elim (lower_of (Some x) (lowest_in steps left places) p is) [
    | inl here ↦ (let same = some_same here in (or_first (x == p) (has places p) (eq-eqb x p same), ap (λ w. is_at (get_or steps w None) left) (sym same) ∙ at))
    | inr rest ↦ rec rest
  ]
  cases rec false at is = rec is

in_least : (steps : List (Option ℕ)) (left : ℕ) (places : List ℕ) (q : ℕ) → has places q ≡ true → is_at (get_or steps q None) left ≡ true → (p : ℕ) × (lowest_in steps left places ≡ Some p) × (p ≤ q)
in_least steps left [] q among at = absurd (false≢true among)
in_least steps left (x ∷ places) q among at = cases (λ there. in_least steps left places q there at) (is_at (get_or steps x None) left) refl where
  cases : (has places q ≡ true → (p : ℕ) × (lowest_in steps left places ≡ Some p) × (p ≤ q)) → (b : Bool) → is_at (get_or steps x None) left ≡ b → (p : ℕ) × (lowest_in steps left (x ∷ places) ≡ Some p) × (p ≤ q)
  cases rec true is =
      let whole : lowest_in steps left (x ∷ places) ≡ lower (Some x) (lowest_in steps left places) = ap (λ b. cond b (lower (Some x) (lowest_in steps left places)) (lowest_in steps left places)) is in
      elim (or_cases (x == q) (has places q) among) [
        | inl here ↦ (let found = lower_first (Some x) (lowest_in steps left places) x q refl (omega (arith, eqb-true x q here)) in (found.0, whole ∙ found.1, found.2))
        | inr there ↦ (let rest = rec there in
            let found = lower_second (Some x) (lowest_in steps left places) rest.0 q rest.1 rest.2 in (found.0, whole ∙ found.1, found.2))
      ]
  cases rec false is =
      let whole : lowest_in steps left (x ∷ places) ≡ lowest_in steps left places = ap (λ b. cond b (lower (Some x) (lowest_in steps left places)) (lowest_in steps left places)) is in
      elim (or_cases (x == q) (has places q) among) [
        | inl here ↦ absurd (false≢true (sym is ∙ ap (λ w. is_at (get_or steps w None) left) (eqb-true x q here) ∙ at))
        | inr there ↦ (let rest = rec there in (rest.0, whole ∙ rest.1, rest.2))
      ]

-- ---- the lowest over some interfaces

over_sound : (onward : List (List ℕ)) (steps : List (Option ℕ)) (left : ℕ) (xs : List ℕ) (p : ℕ) → lowest_over onward steps left xs ≡ Some p → (x : ℕ) × (has xs x ≡ true) × (has (get_or onward x []) p ≡ true) × (is_at (get_or steps p None) left ≡ true)
over_sound onward steps left [] p e = absurd (none_some e)
over_sound onward steps left (x ∷ xs) p e = elim (lower_of (lowest_in steps left (get_or onward x [])) (lowest_over onward steps left xs) p e) [
  | inl here ↦ (let found = in_sound steps left (get_or onward x []) p here in (x, or_first (x == x) (has xs x) (eq-eqb x x refl), found.0, found.1))
  | inr later ↦ (let rest = over_sound onward steps left xs p later in (rest.0, or_later (x == rest.0) (has xs rest.0) rest.1, rest.2, rest.3))
]

over_least : (onward : List (List ℕ)) (steps : List (Option ℕ)) (left : ℕ) (xs : List ℕ) (x q : ℕ) → has xs x ≡ true → has (get_or onward x []) q ≡ true → is_at (get_or steps q None) left ≡ true → (p : ℕ) × (lowest_over onward steps left xs ≡ Some p) × (p ≤ q)
over_least onward steps left [] x q among there at = absurd (false≢true among)
over_least onward steps left (y ∷ xs) x q among there at = elim (or_cases (y == x) (has xs x) among) [
  | inl here ↦ (let found = in_least steps left (get_or onward y []) q (ap (λ w. has (get_or onward w []) q) (eqb-true y x here) ∙ there) at in
      lower_first (lowest_in steps left (get_or onward y [])) (lowest_over onward steps left xs) found.0 q found.1 found.2)
  | inr later ↦ (let rest = over_least onward steps left xs x q later there at in
      lower_second (lowest_in steps left (get_or onward y [])) (lowest_over onward steps left xs) rest.0 q rest.1 rest.2)
]

-- ---- the first of those that are consumed

first_sound : (steps : List (Option ℕ)) (left : ℕ) (places : List ℕ) (q : ℕ) → first_at steps left places ≡ Some q → (has places q ≡ true) × (is_at (get_or steps q None) left ≡ true)
first_sound steps left [] q e = absurd (none_some e)
first_sound steps left (x ∷ places) q e = cases (first_sound steps left places q) (is_at (get_or steps x None) left) refl e where
  cases : (first_at steps left places ≡ Some q → (has places q ≡ true) × (is_at (get_or steps q None) left ≡ true)) → (b : Bool) → is_at (get_or steps x None) left ≡ b → cond b (Some x) (first_at steps left places) ≡ Some q → (has (x ∷ places) q ≡ true) × (is_at (get_or steps q None) left ≡ true)
  cases rec true at is = (let same = some_same is in (or_first (x == q) (has places q) (eq-eqb x q same), ap (λ w. is_at (get_or steps w None) left) (sym same) ∙ at))
  cases rec false at is = (let rest = rec is in (or_later (x == q) (has places q) rest.0, rest.1))

pub lowest_first : (ds : List Description) (onward back : List (List ℕ)) (steps : List (Option ℕ)) (left at : ℕ) → AreLinks ds onward back → at < length ds → lowest_over onward steps left (get_or onward at []) ≡ first_at steps left (get_or (all_uses ds) at [])
lowest_first ds onward back steps left at links within = by_found (lowest_over onward steps left (get_or onward at [])) (first_at steps left (get_or (all_uses ds) at [])) refl refl where
  by_found : (o f : Option ℕ) → lowest_over onward steps left (get_or onward at []) ≡ o → first_at steps left (get_or (all_uses ds) at []) ≡ f → lowest_over onward steps left (get_or onward at []) ≡ first_at steps left (get_or (all_uses ds) at [])
  by_found None None is first = is ∙ sym first
  by_found None (Some q) is first =
      let found = first_sound steps left (get_or (all_uses ds) at []) q first in
      let way = links.between at q found.0 in
      let low = over_least onward steps left (get_or onward at []) way.0 q way.1 way.2 found.1 in
      absurd (none_some (sym is ∙ low.1))
  by_found (Some p) f is first =
      let found = over_sound onward steps left (get_or onward at []) p is in
      let used = links.consumed at found.0 p within found.1 found.2 in
      let low = lowest_place steps left 0 (get_or (all_uses ds) at []) (rising_all_uses ds at) p used (at_some (get_or steps p None) left found.3) in
      let way = links.between at low.place low.among in
      let least = over_least onward steps left (get_or onward at []) way.0 low.place way.1 way.2 (some_at (get_or steps low.place None) left low.far) in
      let same : p ≡ least.0 = some_same (sym is ∙ least.1) in
      is ∙ ap Some (omega (arith, same, least.2, low.lowest p used (at_some (get_or steps p None) left found.3))) ∙ sym low.first

pub none_past : (ds : List Description) (steps : List (Option ℕ)) (left at : ℕ) → length ds ≤ at → None ≡ first_at steps left (get_or (all_uses ds) at [])
none_past ds steps left at past = sym (ap (first_at steps left) (get_or_past (all_uses ds) at [] (omega (arith, past, length-map ds (λ d. uses_of d ds)))))

-- ---- one more of a loop

pub lowest_in-more : (steps : List (Option ℕ)) (left : ℕ) (places : List ℕ) (i : ℕ) → i < length places
    → lowest_in steps left (drop i places) ≡ cond (is_at (get_or steps (get_or places i 0) None) left) (lower (Some (get_or places i 0)) (lowest_in steps left (drop (i + 1) places))) (lowest_in steps left (drop (i + 1) places))
lowest_in-more steps left places i within = ap (lowest_in steps left) (drop-cons places i 0 within) ∙ rw (add-one i) refl

pub lowest_over-more : (onward : List (List ℕ)) (steps : List (Option ℕ)) (left : ℕ) (xs : List ℕ) (i : ℕ) → i < length xs
    → lowest_over onward steps left (drop i xs) ≡ lower (lowest_in steps left (get_or onward (get_or xs i 0) [])) (lowest_over onward steps left (drop (i + 1) xs))
lowest_over-more onward steps left xs i within = ap (lowest_over onward steps left) (drop-cons xs i 0 within) ∙ rw (add-one i) refl

-- what the code finds is the first
pub first_is : (ds : List Description) (onward back : List (List ℕ)) (steps : List (Option ℕ)) (left at : ℕ) (found : Option ℕ) (one other : List (List ℕ)) (xs : List ℕ) → AreLinks ds onward back → at < length ds → found ≡ lowest_over one steps left xs → xs ≡ get_or other at [] → one ≡ onward → other ≡ onward
    → found ≡ first_at steps left (get_or (all_uses ds) at [])
first_is ds onward back steps left at found one other xs links within is is_xs is_one is_other =
    is ∙ ap (λ w. lowest_over one steps left w) (is_xs ∙ ap (λ w. get_or w at []) is_other) ∙ ap (λ w. lowest_over w steps left (get_or onward at [])) is_one ∙ lowest_first ds onward back steps left at links within
