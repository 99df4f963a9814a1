-- That descriptions consume each other exactly where an interface's place lies between them.
use Rattle.std.proofs.Common.{◌≡◌, ◌<◌, ◌≤◌, ℕ, zero, suc, ◌+◌, ◌-◌, List, [], ◌∷◌, ◌++◌, length, get_or, take, ap, sym, ◌∙◌, refl, Bool, true, false, cond, ◌||◌, arith, inl, inr, subst, length-append, Option}
use Rattle.std.specs.Prelude.{map, ◌==◌}
use Rattle.std.specs.Cmp.{both_ways}
use Rattle.std.specs.List.{list_any, flat_map, slice_get}
use Rattle.std.specs.Option.{option_map_or}
use Rattle.std.specs.Str.{bytes_eq}
use Rattle.std.proofs.lemmas.Bool.{cases_lt, eq-eqb, eqb-true, or_cases, false≢true}
use Rattle.std.proofs.lemmas.List.{get_or_past, get_or_append_left, get_or-append_right, length-map, map-append, take_more}
use Rattle.std.proofs.lemmas.List.Folds.{list_any-append}
use Rattle.std.proofs.lemmas.Option.{slice_get-get_or}
use Rattle.std.proofs.lemmas.Slice.Eq.{bytes_eq-Decides}
use Rattle.component_dto.specs.declared.description.Description.{Description}
use Rattle.component_dto.specs.declared.description.Reference.{Reference}
use Rattle.component_dto.specs.TextLists.{has_text}
use Rattle.level_order.specs.InterfaceNames.{named_by, number_of}
use Rattle.level_order.specs.Levels.{consumes}
use Rattle.level_order.specs.Links.{AreLinks, comes_from, needs_of, gives_of}
use Rattle.level_order.specs.Uses.{all_uses}
use Rattle.level_order.specs.Ways.{has}
use Rattle.level_order.proofs.NameLemmas.{named_among, number_within, same_numbers}
use Rattle.level_order.proofs.PlaceLemmas.{has_all_uses, consumes_at_within, within_list}
use Rattle.level_order.proofs.StepLemmas.{any_has, has_any}

or_later : (a b : Bool) → b ≡ true → (a || b) ≡ true
or_later true b e = refl
or_later false b e = e

or_first : (a b : Bool) → a ≡ true → (a || b) ≡ true
or_first true b e = refl
or_first false b e = absurd (false≢true e)

itself : (t : List ℕ) → bytes_eq t t ≡ true
itself t = (bytes_eq-Decides t t).1 refl

shifted : (first m n : ℕ) → (m == n) ≡ (first + m == first + n)
shifted first m n = both_ways (m == n) (first + m == first + n)
    (λ e. eq-eqb (first + m) (first + n) (ap (λ w. first + w) (eqb-true m n e)))
    (λ e. eq-eqb m n (omega (arith, eqb-true (first + m) (first + n) e)))

-- ---- the places of names

-- each of these texts is among the names
abbrev pub AreNamed : {A : Type 0} → (A → List ℕ) → List (List ℕ) → List A → Type 0
AreNamed text names xs = (t : List ℕ) → list_any (λ a. bytes_eq (text a) t) xs ≡ true → has_text names t ≡ true

named_first : {A : Type 0} (text : A → List ℕ) (names : List (List ℕ)) (a : A) (xs : List A) → AreNamed text names (a ∷ xs) → has_text names (text a) ≡ true
named_first text names a xs named = named (text a) (or_first (bytes_eq (text a) (text a)) (list_any (λ b. bytes_eq (text b) (text a)) xs) (itself (text a)))

named_rest : {A : Type 0} (text : A → List ℕ) (names : List (List ℕ)) (a : A) (xs : List A) → AreNamed text names (a ∷ xs) → AreNamed text names xs
named_rest text names a xs named t there = named t (or_later (bytes_eq (text a) t) (list_any (λ b. bytes_eq (text b) t) xs) there)

bounds : {A : Type 0} (text : A → List ℕ) (names : List (List ℕ)) (first : ℕ) (xs : List A) → AreNamed text names xs → (x : ℕ) → has (map (λ a. first + number_of names (text a)) xs) x ≡ true → (first ≤ x) × (x < first + length names)
bounds text names first [] named x there = absurd (false≢true there)
bounds text names first (a ∷ xs) named x there = elim (or_cases (first + number_of names (text a) == x) (has (map (λ a. first + number_of names (text a)) xs) x) there) [
  | inl here ↦ (let is : first + number_of names (text a) ≡ x = eqb-true (first + number_of names (text a)) x here in
      let low : number_of names (text a) < length names = number_within names (text a) (named_first text names a xs named) in
      (omega (arith, is), omega (arith, is, low)))
  | inr later ↦ bounds text names first xs (named_rest text names a xs named) x later
]

has_place : (names : List (List ℕ)) (first : ℕ) (is : List (List ℕ)) (t : List ℕ) → has_text names t ≡ true → AreNamed (λ i. i) names is → has_text is t ≡ has (map (λ (i : List ℕ). first + number_of names i) is) (first + number_of names t)
has_place names first [] t named all = refl
has_place names first (i ∷ is) t named all =
    ap (λ b. b || has_text is t) (same_numbers names i t (named_first (λ i. i) names i is all) named ∙ shifted first (number_of names i) (number_of names t))
    ∙ ap (λ b. (first + number_of names i == first + number_of names t) || b) (has_place names first is t named (named_rest (λ i. i) names i is all))

any_place : {A : Type 0} (text : A → List ℕ) (names : List (List ℕ)) (first : ℕ) (is : List (List ℕ)) (xs : List A) → AreNamed text names xs → AreNamed (λ i. i) names is
    → list_any (λ a. has_text is (text a)) xs ≡ list_any (λ x. has (map (λ (i : List ℕ). first + number_of names i) is) x) (map (λ a. first + number_of names (text a)) xs)
any_place text names first is [] named all = refl
any_place text names first is (a ∷ xs) named all =
    ap (λ b. b || list_any (λ a. has_text is (text a)) xs) (has_place names first is (text a) (named_first text names a xs named) all)
    ∙ ap (λ b. has (map (λ (i : List ℕ). first + number_of names i) is) (first + number_of names (text a)) || b) (any_place text names first is xs (named_rest text names a xs named) all)

-- ---- the names of descriptions

any_name : (rs : List Reference) (t : List ℕ) → list_any (λ (r : Reference). bytes_eq r.interface_name t) rs ≡ has_text (map (λ (r : Reference). r.interface_name) rs) t
any_name [] t = refl
any_name (r ∷ rs) t = ap (λ b. bytes_eq r.interface_name t || b) (any_name rs t)

named_by_any : (d : Description) (t : List ℕ) → has_text (named_by d) t ≡ (has_text d.service_interfaces t || has_text (map (λ (r : Reference). r.interface_name) d.references) t)
named_by_any d t = list_any-append (λ n. bytes_eq n t) d.service_interfaces (map (λ (r : Reference). r.interface_name) d.references)

at_place : (ds : List Description) (f : Description → List ℕ) (i : ℕ) (d : Description) → i < length ds → get_or (map f ds) i [] ≡ f (get_or ds i d)
at_place [] f i d within = absurd (omega arith)
at_place (e ∷ ds) f zero d within = refl
at_place (e ∷ ds) f (suc i) d within = at_place ds f i d (omega arith)

some_of : (ds : List Description) (i : ℕ) → i < length ds → Description
some_of [] i within = absurd (omega arith)
some_of (d ∷ ds) i within = d

uses_at : (ds : List Description) (i j : ℕ) (d : Description) → i < length ds → j < length ds → has (get_or (all_uses ds) i []) j ≡ consumes (get_or ds i d) (get_or ds j d)
uses_at ds i j d within_i within_j =
    has_all_uses ds i j
    ∙ ap (λ (o : Option Description). option_map_or (λ a. option_map_or (λ e. consumes a e) (slice_get ds j) false) o false) (slice_get-get_or ds i d within_i)
    ∙ ap (λ (o : Option Description). option_map_or (λ e. consumes (get_or ds i d) e) o false) (slice_get-get_or ds j d within_j)

no_place : (xs : List (List ℕ)) (i j : ℕ) → length xs ≤ i → has (get_or xs i []) j ≡ true → ⊥
no_place xs i j over there = false≢true (sym (ap (λ w. has w j) (get_or_past xs i [] over)) ∙ there)

-- what the code builds
pub record Built (ds : List Description) (names : List (List ℕ)) (needs gives givers needers : List (List ℕ)) : Type 0 where
  pub named : (t : List ℕ) → has_text (flat_map named_by ds) t ≡ true → has_text names t ≡ true
  pub needs_are : needs ≡ map (needs_of names (length ds)) ds
  pub gives_are : gives ≡ map (gives_of names (length ds)) ds
  pub long_givers : length givers ≡ length names
  pub long_needers : length needers ≡ length names
  pub givers_at : (k place : ℕ) → k < length names → has (get_or givers k []) place ≡ has (get_or gives place []) (length ds + k)
  pub needers_at : (k place : ℕ) → k < length names → has (get_or needers k []) place ≡ has (get_or needs place []) (length ds + k)

pub linked : (ds : List Description) (names : List (List ℕ)) (needs gives givers needers : List (List ℕ)) → Built ds names needs gives givers needers → AreLinks ds (needs ++ givers) (gives ++ needers)
linked ds names needs gives givers needers built = record {
  some = omega (arith, length-append needs givers, long_needs);
  interfaces = λ i x below there. (let facts = need_bounds i x below (subst (λ w. has w x ≡ true) (onward_at i below) there) in (facts.0, omega (arith, facts.1, length-append needs givers, long_needs, built.long_givers)));
  descriptions = λ x j over there. elim (cases_lt x (length ds + length names)) [
    | inl within ↦ (let given : has (get_or gives j []) x ≡ true = sym (onward_over x j over within) ∙ there in
        elim (cases_lt j (length ds)) [
          | inl below ↦ below
          | inr past ↦ absurd (no_place gives j x (omega (arith, past, long_gives)) given)
        ])
    | inr past ↦ absurd (no_place (needs ++ givers) x j (omega (arith, past, length-append needs givers, long_needs, built.long_givers)) there)
  ];
  between = λ i j used. (
      let ends = within i j used in
      let found = any_has (λ x. has (get_or gives j []) x) (get_or needs i []) (sym (uses_any i j ends.0 ends.1) ∙ used) in
      let facts = need_bounds i found.0 ends.0 found.1 in
      (found.0, ap (λ w. has w found.0) (onward_at i ends.0) ∙ found.1, onward_over found.0 j facts.0 facts.1 ∙ found.2));
  consumed = λ i x j below there then. (
      let need : has (get_or needs i []) x ≡ true = sym (ap (λ w. has w x) (onward_at i below)) ∙ there in
      let facts = need_bounds i x below need in
      let given : has (get_or gives j []) x ≡ true = sym (onward_over x j facts.0 facts.1) ∙ then in
      elim (cases_lt j (length ds)) [
        | inl within_j ↦ uses_any i j below within_j ∙ has_any (λ x. has (get_or gives j []) x) (get_or needs i []) x need given
        | inr past ↦ absurd (no_place gives j x (omega (arith, past, long_gives)) given)
      ]);
  turned = λ i j below_i below_j. both_ways (comes_from (gives ++ needers) j i) (has (get_or (all_uses ds) i []) j)
      (λ back. (
      let found = any_has (λ x. has (get_or (gives ++ needers) x []) i) (get_or (gives ++ needers) j []) back in
      let given : has (get_or gives j []) found.0 ≡ true = sym (ap (λ w. has w found.0) (back_at j below_j)) ∙ found.1 in
      let facts = give_bounds j found.0 below_j given in
      let need : has (get_or needs i []) found.0 ≡ true = sym (back_over found.0 i facts.0 facts.1) ∙ found.2 in
      uses_any i j below_i below_j ∙ has_any (λ x. has (get_or gives j []) x) (get_or needs i []) found.0 need given))
      (λ used. (
      let found = any_has (λ x. has (get_or gives j []) x) (get_or needs i []) (sym (uses_any i j below_i below_j) ∙ used) in
      let facts = need_bounds i found.0 below_i found.1 in
      has_any (λ x. has (get_or (gives ++ needers) x []) i) (get_or (gives ++ needers) j []) found.0
      (ap (λ w. has w found.0) (back_at j below_j) ∙ found.2) (back_over found.0 i facts.0 facts.1 ∙ found.1)));
} where
  long_needs : length needs ≡ length ds
  long_needs = ap length built.needs_are ∙ length-map ds (needs_of names (length ds))

  long_gives : length gives ≡ length ds
  long_gives = ap length built.gives_are ∙ length-map ds (gives_of names (length ds))

  needs_at : (i : ℕ) (d : Description) → i < length ds → get_or needs i [] ≡ needs_of names (length ds) (get_or ds i d)
  needs_at i d below = ap (λ w. get_or w i []) built.needs_are ∙ at_place ds (needs_of names (length ds)) i d below

  gives_at : (i : ℕ) (d : Description) → i < length ds → get_or gives i [] ≡ gives_of names (length ds) (get_or ds i d)
  gives_at i d below = ap (λ w. get_or w i []) built.gives_are ∙ at_place ds (gives_of names (length ds)) i d below

  onward_at : (i : ℕ) → i < length ds → get_or (needs ++ givers) i [] ≡ get_or needs i []
  onward_at i below = get_or_append_left needs givers [] i (omega (arith, below, long_needs))

  back_at : (j : ℕ) → j < length ds → get_or (gives ++ needers) j [] ≡ get_or gives j []
  back_at j below = get_or_append_left gives needers [] j (omega (arith, below, long_gives))

  onward_over : (x j : ℕ) → length ds ≤ x → x < length ds + length names → has (get_or (needs ++ givers) x []) j ≡ has (get_or gives j []) x
  onward_over x j over within =
      let back : length ds + (x - length ds) ≡ x = omega (arith, over) in
      ap (λ w. has w j) (get_or-append_right needs givers (length ds) x [] long_needs over)
      ∙ built.givers_at (x - length ds) j (omega (arith, over, within)) ∙ ap (λ w. has (get_or gives j []) w) back

  back_over : (x i : ℕ) → length ds ≤ x → x < length ds + length names → has (get_or (gives ++ needers) x []) i ≡ has (get_or needs i []) x
  back_over x i over within =
      let back : length ds + (x - length ds) ≡ x = omega (arith, over) in
      ap (λ w. has w i) (get_or-append_right gives needers (length ds) x [] long_gives over)
      ∙ built.needers_at (x - length ds) i (omega (arith, over, within)) ∙ ap (λ w. has (get_or needs i []) w) back

  named_needs : (i : ℕ) (d : Description) → i < length ds → AreNamed (λ (r : Reference). r.interface_name) names (get_or ds i d).references
  named_needs i d below t there =
      built.named t (named_among ds i d t below (named_by_any (get_or ds i d) t
      ∙ or_later (has_text (get_or ds i d).service_interfaces t) (has_text (map (λ (r : Reference). r.interface_name) (get_or ds i d).references) t) (sym (any_name (get_or ds i d).references t) ∙ there)))

  named_gives : (i : ℕ) (d : Description) → i < length ds → AreNamed (λ i. i) names (get_or ds i d).service_interfaces
  named_gives i d below t there =
      built.named t (named_among ds i d t below (named_by_any (get_or ds i d) t
      ∙ or_first (has_text (get_or ds i d).service_interfaces t) (has_text (map (λ (r : Reference). r.interface_name) (get_or ds i d).references) t) there))

  need_bounds : (i x : ℕ) → i < length ds → has (get_or needs i []) x ≡ true → (length ds ≤ x) × (x < length ds + length names)
  need_bounds i x below there =
      let d = some_of ds i below in
      bounds (λ (r : Reference). r.interface_name) names (length ds) (get_or ds i d).references (named_needs i d below) x (sym (ap (λ w. has w x) (needs_at i d below)) ∙ there)

  give_bounds : (j x : ℕ) → j < length ds → has (get_or gives j []) x ≡ true → (length ds ≤ x) × (x < length ds + length names)
  give_bounds j x below there =
      let d = some_of ds j below in
      bounds (λ i. i) names (length ds) (get_or ds j d).service_interfaces (named_gives j d below) x (sym (ap (λ w. has w x) (gives_at j d below)) ∙ there)

  uses_any : (i j : ℕ) → i < length ds → j < length ds → has (get_or (all_uses ds) i []) j ≡ list_any (λ x. has (get_or gives j []) x) (get_or needs i [])
  uses_any i j below_i below_j =
      let d = some_of ds i below_i in
      uses_at ds i j d below_i below_j
      ∙ any_place (λ (r : Reference). r.interface_name) names (length ds) (get_or ds j d).service_interfaces (get_or ds i d).references (named_needs i d below_i) (named_gives j d below_j)
      ∙ ap (λ w. list_any (λ x. has w x) (needs_of names (length ds) (get_or ds i d))) (sym (gives_at j d below_j))
      ∙ ap (λ w. list_any (λ x. has (get_or gives j []) x) w) (sym (needs_at i d below_i))

  within : (i j : ℕ) → has (get_or (all_uses ds) i []) j ≡ true → (i < length ds) × (j < length ds)
  within i j used =
      let at = sym (has_all_uses ds i j) ∙ used in
      (within_list ds (λ d. option_map_or (λ e. consumes d e) (slice_get ds j) false) i at, consumes_at_within ds i j at)

-- one more place of a name
pub placed_more : {A : Type 0} (text : A → List ℕ) (names : List (List ℕ)) (first : ℕ) (xs ys : List A) (i : ℕ) (items : List ℕ) (x : A) (t : List ℕ) (n : ℕ) → xs ≡ ys → i < length xs → x ≡ get_or xs i x → t ≡ text x → n ≡ number_of names t
    → items ≡ map (λ a. first + number_of names (text a)) (take i ys) → items ++ (first + n) ∷ [] ≡ map (λ a. first + number_of names (text a)) (take (i + 1) ys)
placed_more {A} text names first xs ys i items x t n same within is is_t is_n so_far =
    let here : n ≡ number_of names (text (get_or ys i x)) = is_n ∙ ap (number_of names) (is_t ∙ ap text (is ∙ ap (λ (w : List A). get_or w i x) same)) in
    ap (λ w. w ++ (first + n) ∷ []) so_far ∙ ap (λ w. map (λ a. first + number_of names (text a)) (take i ys) ++ (first + w) ∷ []) here
    ∙ sym (ap (map (λ a. first + number_of names (text a))) (take_more ys i x (omega (arith, within, ap length same))) ∙ map-append (λ a. first + number_of names (text a)) (take i ys) (get_or ys i x ∷ []))
