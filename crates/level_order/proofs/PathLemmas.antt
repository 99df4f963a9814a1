-- That going on to the first nearer place gives the least of the shortest ways.
use Rattle.std.proofs.Common.{◌≡◌, ◌<◌, ◌≤◌, ℕ, zero, suc, ◌+◌, ◌-◌, List, [], ◌∷◌, length, get_or, ap, sym, ◌∙◌, refl, Bool, true, false, cond, ◌&&◌, ◌||◌, arith, Option, Some, None, inl, inr, subst}
use Rattle.std.specs.Prelude.{◌==◌, nat_lt}
use Rattle.std.specs.Option.{option_map_or}
use Rattle.std.proofs.lemmas.Bool.{eq-eqb, eqb-true, or_cases, and_parts, and_from, false≢true, cases_order, lt-ltb}
use Rattle.level_order.specs.Cycles.{is_least}
use Rattle.level_order.specs.Ways.{has, leads_by, Measures, is_at, first_at, least_path}
use Rattle.level_order.proofs.PlaceLemmas.{Rising, rising_has}

none_some : {X : Type 0} {x : X} → None ≡ Some x → ⊥
none_some e = cc

some_same : {m n : ℕ} → Some m ≡ Some n → m ≡ n
some_same e = cc

-- behind a shortest way over one more place stands a shortest way
pub exact_next : (uses : List (List ℕ)) (to : ℕ) (steps : List (Option ℕ)) → Measures uses to steps → (from r p : ℕ) (path : List ℕ) → get_or steps from None ≡ Some (suc r) → leads_by uses from (p ∷ path) to ≡ true → length path ≡ r
    → get_or steps p None ≡ Some r
exact_next uses to steps measures from r p path far way long =
    let parts = and_parts (has (get_or uses from []) p) (leads_by uses p path to) way in
    let near = measures.complete p path parts.1 in
    let back = measures.sound p near.0 near.1 in
    let over = measures.complete from (p ∷ back.0) (and_from (has (get_or uses from []) p) (leads_by uses p back.0 to) parts.0 back.2) in
    let least : suc r ≡ over.0 = some_same (sym far ∙ over.1) in
    near.1 ∙ ap Some (omega (arith, near.2, long, back.1, over.2, least))

at_itself : (o : Option ℕ) (r : ℕ) → o ≡ Some r → is_at o r ≡ true
at_itself None r e = absurd (none_some e)
at_itself (Some m) r e = eq-eqb m r (some_same e)

at_some : (o : Option ℕ) (r : ℕ) → is_at o r ≡ true → o ≡ Some r
at_some None r e = absurd (false≢true e)
at_some (Some m) r e = ap Some (eqb-true m r e)

-- the first such place, and the lowest one
pub record Lowest (steps : List (Option ℕ)) (r : ℕ) (places : List ℕ) : Type 0 where
  pub place : ℕ
  pub first : first_at steps r places ≡ Some place
  pub among : has places place ≡ true
  pub far : get_or steps place None ≡ Some r
  pub lowest : (other : ℕ) → has places other ≡ true → get_or steps other None ≡ Some r → place ≤ other

or_later : (a b : Bool) → b ≡ true → (a || b) ≡ true
or_later true b e = refl
or_later false b e = e

or_first : (a b : Bool) → a ≡ true → (a || b) ≡ true
or_first true b e = refl
or_first false b e = absurd (false≢true e)

pub lowest_place : (steps : List (Option ℕ)) (r low : ℕ) (places : List ℕ) → Rising low places → (some : ℕ) → has places some ≡ true → get_or steps some None ≡ Some r → Lowest steps r places
lowest_place steps r low [] rising some among far = absurd (false≢true among)
lowest_place steps r low (x ∷ xs) rising some among far = cases (is_at (get_or steps x None) r) refl (λ there. lowest_place steps r (x + 1) xs rising.1 some there far) where
  not_here : false ≡ is_at (get_or steps x None) r → (p : ℕ) → has (x ∷ xs) p ≡ true → get_or steps p None ≡ Some r → has xs p ≡ true
  not_here not_x p there far_p = elim (or_cases (x == p) (has xs p) there) [
    | inl here ↦ (let same = eqb-true x p here in absurd (false≢true (not_x ∙ ap (λ w. is_at (get_or steps w None) r) same ∙ at_itself (get_or steps p None) r far_p)))
    | inr later ↦ later
  ]

  cases : (b : Bool) → b ≡ is_at (get_or steps x None) r → (has xs some ≡ true → Lowest steps r xs) → Lowest steps r (x ∷ xs)
  cases true yes_x later = record {
    place = x;
    first = ap (λ b. cond b (Some x) (first_at steps r xs)) (sym yes_x);
    among = or_first (x == x) (has xs x) (eq-eqb x x refl);
    far = at_some (get_or steps x None) r (sym yes_x);
    lowest = λ other there far_other. elim (or_cases (x == other) (has xs other) there) [
      | inl here ↦ omega (arith, eqb-true x other here)
      | inr later ↦ omega (arith, rising_has (x + 1) xs other rising.1 later)
    ];
  }
  cases false no_x later =
      let rest = later (not_here no_x some among far) in
      record {
        place = rest.place;
        first = ap (λ b. cond b (Some x) (first_at steps r xs)) (sym no_x) ∙ rest.first;
        among = or_later (x == rest.place) (has xs rest.place) rest.among;
        far = rest.far;
        lowest = λ other there far_other. rest.lowest other (not_here no_x other there far_other) far_other;
      }

-- a shortest way, and of these the least
pub record Shortest (uses : List (List ℕ)) (to from m : ℕ) (path : List ℕ) : Type 0 where
  pub long : length path ≡ m
  pub way : leads_by uses from path to ≡ true
  pub least : (other : List ℕ) → leads_by uses from other to ≡ true → length other ≡ m → is_least path other ≡ true

-- a lower place, or the same and then a list that is less
less_first : (p q : ℕ) (path other : List ℕ) → p ≤ q → (p ≡ q → is_least path other ≡ true) → is_least (p ∷ path) (q ∷ other) ≡ true
less_first p q path other low rest = elim (cases_order p q) [
  | inl same ↦ or_later (nat_lt p q) ((p == q) && is_least path other) (and_from (p == q) (is_least path other) (eq-eqb p q same) (rest same))
  | inr apart ↦ elim apart [
    | inl below ↦ or_first (nat_lt p q) ((p == q) && is_least path other) (lt-ltb p q below)
    | inr above ↦ absurd (omega (arith, low, above))
  ]
]

pub least_path_shortest : (uses : List (List ℕ)) (to : ℕ) (steps : List (Option ℕ)) → Measures uses to steps → ((i : ℕ) → Rising 0 (get_or uses i [])) → (m from : ℕ) → get_or steps from None ≡ Some m → Shortest uses to from m (least_path uses steps from m)
least_path_shortest uses to steps measures rising zero from far = record {
  long = refl;
  way = start (measures.sound from 0 far).0 (measures.sound from 0 far).1 (measures.sound from 0 far).2;
  least = λ other way long. refl;
} where
  start : (path : List ℕ) → length path ≡ 0 → leads_by uses from path to ≡ true → leads_by uses from [] to ≡ true
  start [] long way = way
  start (p ∷ path) long way = absurd (omega (arith, long))
least_path_shortest uses to steps measures rising (suc r) from far =
    let known = measures.sound from (suc r) far in
    let low = found known.0 known.1 known.2 in
    let rest = least_path_shortest uses to steps measures rising r low.place low.far in
    let is : least_path uses steps from (suc r) ≡ low.place ∷ least_path uses steps low.place r = ap (λ o. option_map_or (λ p. p ∷ least_path uses steps p r) o []) low.first in
    subst (λ w. Shortest uses to from (suc r) w) (sym is) (record {
      long = omega (arith, rest.long);
      way = and_from (has (get_or uses from []) low.place) (leads_by uses low.place (least_path uses steps low.place r) to) low.among rest.way;
      least = λ other way long. less low rest other way long;
    }) where
      found : (path : List ℕ) → length path ≡ suc r → leads_by uses from path to ≡ true → Lowest steps r (get_or uses from [])
      found [] long way = absurd (omega (arith, long))
      found (p ∷ path) long way = lowest_place steps r 0 (get_or uses from []) (rising from) p (and_parts (has (get_or uses from []) p) (leads_by uses p path to) way).0 (exact_next uses to steps measures from r p path far way (omega (arith, long)))

      less : (low : Lowest steps r (get_or uses from [])) → Shortest uses to low.place r (least_path uses steps low.place r) → (other : List ℕ) → leads_by uses from other to ≡ true → length other ≡ suc r → is_least (low.place ∷ least_path uses steps low.place r) other ≡ true
      less low rest [] way long = absurd (omega (arith, long))
      less low rest (q ∷ other) way long =
          let parts = and_parts (has (get_or uses from []) q) (leads_by uses q other to) way in
          let long_other : length other ≡ r = omega (arith, long) in
          let far_q : get_or steps q None ≡ Some r = exact_next uses to steps measures from r q other far way long_other in
          less_first low.place q (least_path uses steps low.place r) other (low.lowest q parts.0 far_q)
          (λ same. rest.least other (ap (λ w. leads_by uses w other to) same ∙ parts.1) long_other)

-- one place further
pub least_path-more : (uses : List (List ℕ)) (steps : List (Option ℕ)) (from left p : ℕ) → 0 < left → first_at steps (left - 1) (get_or uses from []) ≡ Some p → least_path uses steps from left ≡ p ∷ least_path uses steps p (left - 1)
least_path-more uses steps from zero p some first = absurd (omega arith)
least_path-more uses steps from (suc left) p some first =
    let back : suc left - 1 ≡ left = omega arith in
    let first' : first_at steps left (get_or uses from []) ≡ Some p = rw back at first in
    ap (λ o. option_map_or (λ q. q ∷ least_path uses steps q left) o []) first' ∙ rw back refl
