-- Lists without doubles: two that have the same numbers are equally long.
use Rattle.std.proofs.Common.{◌≡◌, ◌≤◌, ℕ, zero, suc, ◌+◌, List, [], ◌∷◌, ◌++◌, ap, sym, ◌∙◌, refl, subst, cond, arith, Bool, true, false, ◌&&◌, ◌||◌, inl, inr, ◌⊎◌, length}
use Rattle.std.specs.Prelude.{filter, map, not, ◌==◌}
use Rattle.std.specs.List.{Contains, list_any, list_all}
use Rattle.std.proofs.lemmas.Bool.{and_parts, and_from, eqb-true, eq-eqb, cases_Bool, both_ways}
use Rattle.prop_map.specs.Words.{has}
use Rattle.component_state.specs.Inside.Ready.{are_apart}

-- ---- truth

pub or_true : (b : Bool) → (b || true) ≡ true
or_true true = refl
or_true false = refl

pub not_true : (b : Bool) → not b ≡ true → b ≡ false
not_true false is = refl
not_true true is = cc

pub either_way : (a b : Bool) → (a ≡ true → b ≡ true) → (b ≡ true → a ≡ true) → a ≡ b
either_way true b to from = sym (to refl)
either_way false true to from = from refl
either_way false false to from = refl

-- ---- lists

module _ {X : Type 0} where
  pub in_first : (x : X) (xs : List X) → Contains (x ∷ xs) x
  in_first x xs = (0, omega arith, refl)

  pub in_rest : (y : X) (xs : List X) (x : X) → Contains xs x → Contains (y ∷ xs) x
  in_rest y xs x h = (suc h.0, omega (arith, h.1), h.2)

  pub in_cases : (y : X) (ys : List X) (x : X) → Contains (y ∷ ys) x → (y ≡ x) ⊎ Contains ys x
  in_cases y ys x (zero, low, is) = inl is
  in_cases y ys x (suc k, low, is) = inr (k, omega (arith, low), is)

  pub in_none : (x : X) → Contains [] x → ⊥
  in_none x h = omega (arith, h.1)

  pub in_either : (xs ys : List X) (x : X) → Contains (xs ++ ys) x → Contains xs x ⊎ Contains ys x
  in_either [] ys x h = inr h
  in_either (z ∷ zs) ys x h = elim (in_cases z (zs ++ ys) x h) [
    | inl same ↦ inl (subst (λ (y : X). Contains (z ∷ zs) y) same (in_first z zs))
    | inr later ↦ elim (in_either zs ys x later) [ inl l ↦ inl (in_rest z zs x l) | inr r ↦ inr r ]
  ]

  pub in_left : (xs ys : List X) (x : X) → Contains xs x → Contains (xs ++ ys) x
  in_left [] ys x h = absurd (in_none x h)
  in_left (z ∷ zs) ys x h = elim (in_cases z zs x h) [
    | inl same ↦ subst (λ (y : X). Contains (z ∷ (zs ++ ys)) y) same (in_first z (zs ++ ys))
    | inr later ↦ in_rest z (zs ++ ys) x (in_left zs ys x later)
  ]

  pub in_right : (xs ys : List X) (x : X) → Contains ys x → Contains (xs ++ ys) x
  in_right [] ys x h = h
  in_right (z ∷ zs) ys x h = in_rest z (zs ++ ys) x (in_right zs ys x h)

  pub any_from : (p : X → Bool) (xs : List X) (x : X) → Contains xs x → p x ≡ true → list_any p xs ≡ true
  any_from p [] x h is = absurd (in_none x h)
  any_from p (y ∷ ys) x h is = elim (in_cases y ys x h) [
    | inl same ↦ ap (λ b. b || list_any p ys) (ap p same ∙ is)
    | inr later ↦ ap (λ b. p y || b) (any_from p ys x later is) ∙ or_true (p y)
  ]

  pub any_found : (p : X → Bool) (xs : List X) → list_any p xs ≡ true → (x : X) × Contains xs x × (p x ≡ true)
  any_found p [] is = cc
  any_found p (x ∷ xs) is = go (any_found p xs) (p x) refl is
    where
      go : (list_any p xs ≡ true → (y : X) × Contains xs y × (p y ≡ true)) → (b : Bool) → p x ≡ b → (b || list_any p xs) ≡ true → (y : X) × Contains (x ∷ xs) y × (p y ≡ true)
      go rest true on h = (x, in_first x xs, on)
      go rest false off h = let found = rest h in (found.0, in_rest x xs found.0 found.1, found.2)

  pub all_same : (p q : X → Bool) (xs : List X) → ((x : X) → Contains xs x → p x ≡ q x) → list_all p xs ≡ list_all q xs
  all_same p q [] each = refl
  all_same p q (x ∷ xs) each = ap (λ b. b && list_all p xs) (each x (in_first x xs)) ∙ ap (λ b. q x && b) (all_same p q xs (λ y h. each y (in_rest x xs y h)))

  -- ---- filters

  pub kept_was : (t : X → Bool) (xs : List X) (x : X) → Contains (filter t xs) x → Contains xs x × (t x ≡ true)
  kept_was t [] x h = absurd (in_none x h)
  kept_was t (y ∷ ys) x h = go (kept_was t ys x) (t y) refl h
    where
      go : (Contains (filter t ys) x → Contains ys x × (t x ≡ true)) → (b : Bool) → t y ≡ b → Contains (cond b (y ∷ filter t ys) (filter t ys)) x → Contains (y ∷ ys) x × (t x ≡ true)
      go later false is k = let found = later k in (in_rest y ys x found.0, found.1)
      go later true is k = elim (in_cases y (filter t ys) x k) [
        | inl same ↦ (subst (λ (z : X). Contains (y ∷ ys) z) same (in_first y ys), ap t (sym same) ∙ is)
        | inr rest ↦ (let found = later rest in (in_rest y ys x found.0, found.1))
      ]

  pub kept_from : (t : X → Bool) (xs : List X) (x : X) → Contains xs x → t x ≡ true → Contains (filter t xs) x
  kept_from t [] x h is = absurd (in_none x h)
  kept_from t (y ∷ ys) x h is = elim (in_cases y ys x h) [
    | inl same ↦ subst (λ b. Contains (cond b (y ∷ filter t ys) (filter t ys)) x) (sym (ap t same ∙ is)) (subst (λ (z : X). Contains (y ∷ filter t ys) z) same (in_first y (filter t ys)))
    | inr later ↦ go (t y) (kept_from t ys x later is)
  ]
    where
      go : (b : Bool) → Contains (filter t ys) x → Contains (cond b (y ∷ filter t ys) (filter t ys)) x
      go true k = in_rest y (filter t ys) x k
      go false k = k

  pub kept_over : (t : X → Bool) (xs ys : List X) → filter t (xs ++ ys) ≡ filter t xs ++ filter t ys
  kept_over t [] ys = refl
  kept_over t (x ∷ xs) ys = ap (λ zs. cond (t x) (x ∷ zs) zs) (kept_over t xs ys) ∙ go (t x)
    where
      go : (b : Bool) → cond b (x ∷ (filter t xs ++ filter t ys)) (filter t xs ++ filter t ys) ≡ cond b (x ∷ filter t xs) (filter t xs) ++ filter t ys
      go true = refl
      go false = refl

  pub length_over : (xs ys : List X) → length (xs ++ ys) ≡ length xs + length ys
  length_over [] ys = omega arith
  length_over (x ∷ xs) ys = let rest = length_over xs ys in omega (arith, rest)

  pub kept_short : (t : X → Bool) (xs : List X) → length (filter t xs) ≤ length xs
  kept_short t [] = omega arith
  kept_short t (x ∷ xs) = go (t x) (kept_short t xs)
    where
      go : (b : Bool) → length (filter t xs) ≤ length xs → length (cond b (x ∷ filter t xs) (filter t xs)) ≤ suc (length xs)
      go true low = omega (arith, low)
      go false low = omega (arith, low)

module _ {X Y : Type 0} (f : X → Y) where
  pub mapped_long : (xs : List X) → length (map f xs) ≡ length xs
  mapped_long [] = refl
  mapped_long (x ∷ xs) = ap suc (mapped_long xs)

  -- as many of the images pass a test as of the items pass it by their image
  pub kept_mapped : (t : Y → Bool) (xs : List X) → length (filter t (map f xs)) ≡ length (filter (λ x. t (f x)) xs)
  kept_mapped t [] = refl
  kept_mapped t (x ∷ xs) = go (t (f x)) (kept_mapped t xs)
    where
      go : (b : Bool) → length (filter t (map f xs)) ≡ length (filter (λ y. t (f y)) xs) → length (cond b (f x ∷ filter t (map f xs)) (filter t (map f xs))) ≡ length (cond b (x ∷ filter (λ y. t (f y)) xs) (filter (λ y. t (f y)) xs))
      go true same = ap suc same
      go false same = same

-- ---- numbers in lists

apart_from : (t : ℕ → Bool) (m n : ℕ) → t m ≡ false → t n ≡ true → (m == n) ≡ false
apart_from t m n off is = elim (cases_Bool (m == n)) [
  | inl same ↦ absurd (both_ways (t m) off (ap t (eqb-true m n same) ∙ is))
  | inr other ↦ other
]

-- a filter by a test that passes the number leaves it where it was
pub has_kept : (t : ℕ → Bool) (ns : List ℕ) (n : ℕ) → t n ≡ true → has (filter t ns) n ≡ has ns n
has_kept t [] n is = refl
has_kept t (m ∷ ns) n is = go (has_kept t ns n is) (t m) refl
  where
    go : has (filter t ns) n ≡ has ns n → (b : Bool) → t m ≡ b → has (cond b (m ∷ filter t ns) (filter t ns)) n ≡ ((m == n) || has ns n)
    go rest true on = ap (λ b. (m == n) || b) rest
    go rest false off = rest ∙ ap (λ b. b || has ns n) (sym (apart_from t m n off is))

pub has_both : (xs ys : List ℕ) (n : ℕ) → has (xs ++ ys) n ≡ (has xs n || has ys n)
has_both [] ys n = refl
has_both (x ∷ xs) ys n = ap (λ b. (x == n) || b) (has_both xs ys n) ∙ assoc (x == n)
  where
    assoc : (b : Bool) → (b || (has xs n || has ys n)) ≡ ((b || has xs n) || has ys n)
    assoc true = refl
    assoc false = refl

-- to take a number out makes a list that has it shorter
shorter : (x : ℕ) (ys : List ℕ) → has ys x ≡ true → length (filter (λ y. not (y == x)) ys) + 1 ≤ length ys
shorter x [] is = cc
shorter x (y ∷ ys) is = go (shorter x ys) (y == x) is
  where
    go : (has ys x ≡ true → length (filter (λ y. not (y == x)) ys) + 1 ≤ length ys) → (b : Bool) → (b || has ys x) ≡ true → length (cond (not b) (y ∷ filter (λ y. not (y == x)) ys) (filter (λ y. not (y == x)) ys)) + 1 ≤ suc (length ys)
    go rest true h = omega (arith, kept_short (λ y. not (y == x)) ys)
    go rest false h = omega (arith, rest h)

-- what is without doubles is no longer than a list that has all of it
pub no_longer : (xs ys : List ℕ) → are_apart xs ≡ true → ((n : ℕ) → has xs n ≡ true → has ys n ≡ true) → length xs ≤ length ys
no_longer [] ys apart each = omega arith
no_longer (x ∷ xs) ys apart each =
    omega (arith, no_longer xs (filter (λ y. not (y == x)) ys) parts.1 still, shorter x ys (each x (ap (λ b. b || has xs x) (eq-eqb x x refl))))
  where
    parts : (not (has xs x) ≡ true) × (are_apart xs ≡ true)
    parts = and_parts (not (has xs x)) (are_apart xs) apart

    other : (n : ℕ) → has xs n ≡ true → (n == x) ≡ false
    other n is = elim (cases_Bool (n == x)) [
      | inl same ↦ absurd (both_ways (has xs x) (not_true (has xs x) parts.0) (ap (has xs) (sym (eqb-true n x same)) ∙ is))
      | inr off ↦ off
    ]

    still : (n : ℕ) → has xs n ≡ true → has (filter (λ y. not (y == x)) ys) n ≡ true
    still n is = has_kept (λ y. not (y == x)) ys n (ap not (other n is)) ∙ each n (ap (λ b. (x == n) || b) is ∙ or_true (x == n))

pub as_long : (xs ys : List ℕ) → are_apart xs ≡ true → are_apart ys ≡ true → ((n : ℕ) → has xs n ≡ true → has ys n ≡ true) → ((n : ℕ) → has ys n ≡ true → has xs n ≡ true) → length xs ≡ length ys
as_long xs ys one two to from = omega (arith, no_longer xs ys one to, no_longer ys xs two from)

pub apart_both : (xs ys : List ℕ) → are_apart xs ≡ true → are_apart ys ≡ true → ((n : ℕ) → has xs n ≡ true → has ys n ≡ true → ⊥) → are_apart (xs ++ ys) ≡ true
apart_both [] ys one two none = two
apart_both (x ∷ xs) ys one two none =
    and_from (not (has (xs ++ ys) x)) (are_apart (xs ++ ys)) (ap not (has_both xs ys x ∙ ap (λ b. b || has ys x) (not_true (has xs x) parts.0) ∙ off (cases_Bool (has ys x))))
    (apart_both xs ys parts.1 two (λ n l r. none n (ap (λ b. (x == n) || b) l ∙ or_true (x == n)) r))
  where
    parts : (not (has xs x) ≡ true) × (are_apart xs ≡ true)
    parts = and_parts (not (has xs x)) (are_apart xs) one

    off : (has ys x ≡ true) ⊎ (has ys x ≡ false) → has ys x ≡ false
    off (inl is) = absurd (none x (ap (λ b. b || has xs x) (eq-eqb x x refl)) is)
    off (inr is) = is

-- ---- items with numbers

module _ {X : Type 0} (key : X → ℕ) where
  pub key_in : (xs : List X) (x : X) → Contains xs x → has (map key xs) (key x) ≡ true
  key_in [] x h = absurd (in_none x h)
  key_in (y ∷ ys) x h = elim (in_cases y ys x h) [
    | inl same ↦ ap (λ b. b || has (map key ys) (key x)) (eq-eqb (key y) (key x) (ap key same))
    | inr later ↦ ap (λ b. (key y == key x) || b) (key_in ys x later) ∙ or_true (key y == key x)
  ]

  pub keyed : (xs : List X) (n : ℕ) → has (map key xs) n ≡ true → (x : X) × Contains xs x × (key x ≡ n)
  keyed [] n is = cc
  keyed (x ∷ xs) n is = go (keyed xs n) (key x == n) refl is
    where
      go : (has (map key xs) n ≡ true → (y : X) × Contains xs y × (key y ≡ n)) → (b : Bool) → (key x == n) ≡ b → (b || has (map key xs) n) ≡ true → (y : X) × Contains (x ∷ xs) y × (key y ≡ n)
      go rest true same h = (x, in_first x xs, eqb-true (key x) n same)
      go rest false off h = let found = rest h in (found.0, in_rest x xs found.0 found.1, found.2)

  -- items with numbers that differ are equal where their numbers are
  pub one_of : (xs : List X) → are_apart (map key xs) ≡ true → (x y : X) → Contains xs x → Contains xs y → key x ≡ key y → x ≡ y
  one_of [] apart x y hx hy same = absurd (in_none x hx)
  one_of (z ∷ zs) apart x y hx hy same = go (λ rest a b. one_of zs rest x y a b same) (in_cases z zs x hx) (in_cases z zs y hy)
    where
      parts : (not (has (map key zs) (key z)) ≡ true) × (are_apart (map key zs) ≡ true)
      parts = and_parts (not (has (map key zs) (key z))) (are_apart (map key zs)) apart

      never : (v : X) → Contains zs v → key v ≡ key z → ⊥
      never v h is = both_ways (has (map key zs) (key z)) (not_true (has (map key zs) (key z)) parts.0) (ap (has (map key zs)) (sym is) ∙ key_in zs v h)

      go : (are_apart (map key zs) ≡ true → Contains zs x → Contains zs y → x ≡ y) → (z ≡ x) ⊎ Contains zs x → (z ≡ y) ⊎ Contains zs y → x ≡ y
      go later (inl a) (inl b) = sym a ∙ b
      go later (inl a) (inr b) = absurd (never y b (sym same ∙ ap key (sym a)))
      go later (inr a) (inl b) = absurd (never x a (same ∙ ap key (sym b)))
      go later (inr a) (inr b) = later parts.1 a b

  pub apart_kept : (t : X → Bool) (xs : List X) → are_apart (map key xs) ≡ true → are_apart (map key (filter t xs)) ≡ true
  apart_kept t [] apart = refl
  apart_kept t (x ∷ xs) apart = go (apart_kept t xs) (t x)
    where
      parts : (not (has (map key xs) (key x)) ≡ true) × (are_apart (map key xs) ≡ true)
      parts = and_parts (not (has (map key xs) (key x))) (are_apart (map key xs)) apart

      off : (has (map key (filter t xs)) (key x) ≡ true) ⊎ (has (map key (filter t xs)) (key x) ≡ false) → has (map key (filter t xs)) (key x) ≡ false
      off (inr is) = is
      off (inl is) = absurd (both_ways (has (map key xs) (key x)) (not_true (has (map key xs) (key x)) parts.0)
          (let found = keyed (filter t xs) (key x) is in ap (has (map key xs)) (sym found.2) ∙ key_in xs found.0 (kept_was t xs found.0 found.1).0))

      go : (are_apart (map key xs) ≡ true → are_apart (map key (filter t xs)) ≡ true) → (b : Bool) → are_apart (map key (cond b (x ∷ filter t xs) (filter t xs))) ≡ true
      go rest true = and_from (not (has (map key (filter t xs)) (key x))) (are_apart (map key (filter t xs))) (ap not (off (cases_Bool (has (map key (filter t xs)) (key x))))) (rest parts.1)
      go rest false = rest parts.1
