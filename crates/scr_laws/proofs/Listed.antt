-- Lists: what is found, kept and mapped.
use Rattle.std.proofs.Common.{◌≡◌, List, [], ◌∷◌, ◌++◌, ap, sym, ◌∙◌, refl, subst, cond, Bool, true, false, ◌||◌, inl, inr, Some, None}
use Rattle.std.specs.Prelude.{filter, find, flat_map, map}
use Rattle.std.specs.List.{Contains, list_any}
use Rattle.std.proofs.lemmas.Bool.{both_ways, cases_Bool}
use Rattle.component_state.proofs.Apart.{in_cases, in_either, in_first, in_none, in_rest}

module _ {X : Type 0} where
  pub kept_in : (t : X → Bool) (xs : List X) (x : X) → Contains xs x → t x ≡ true → Contains (filter t xs) x
  kept_in t [] x h is = absurd (in_none x h)
  kept_in t (y ∷ ys) x h is = elim (in_cases y ys x h) [
    | inl same ↦ subst (λ b. Contains (cond b (y ∷ filter t ys) (filter t ys)) x) (sym (ap t same ∙ is)) (subst (λ (z : X). Contains (y ∷ filter t ys) z) same (in_first y (filter t ys)))
    | inr later ↦ go (kept_in t ys x later is) (t y)
  ]
    where
      go : Contains (filter t ys) x → (b : Bool) → Contains (cond b (y ∷ filter t ys) (filter t ys)) x
      go there true = in_rest y (filter t ys) x there
      go there false = there

  -- the only one that passes is found
  pub found_is : (t : X → Bool) (xs : List X) (x : X) → Contains xs x → t x ≡ true → ((y : X) → Contains xs y → t y ≡ true → y ≡ x) → find t xs ≡ Some x
  found_is t [] x h is one = absurd (in_none x h)
  found_is t (y ∷ ys) x h is one = go (found_is t ys x) (t y) refl
    where
      go : (Contains ys x → t x ≡ true → ((z : X) → Contains ys z → t z ≡ true → z ≡ x) → find t ys ≡ Some x) → (b : Bool) → t y ≡ b → cond b (Some y) (find t ys) ≡ Some x
      go later true on = ap (λ z. Some z) (one y (in_first y ys) on)
      go later false off = elim (in_cases y ys x h) [
        | inl same ↦ absurd (both_ways (t x) (ap t (sym same) ∙ off) is)
        | inr there ↦ later there is (λ z k. one z (in_rest y ys z k))
      ]

  -- what is found is there and passes
  pub found_was : (t : X → Bool) (xs : List X) (x : X) → find t xs ≡ Some x → Contains xs x × (t x ≡ true)
  found_was t [] x e = absurd cc
  found_was t (y ∷ ys) x e = go (found_was t ys x) (t y) refl e
    where
      go : (find t ys ≡ Some x → Contains ys x × (t x ≡ true)) → (b : Bool) → t y ≡ b → cond b (Some y) (find t ys) ≡ Some x → Contains (y ∷ ys) x × (t x ≡ true)
      go later true on is = let same : y ≡ x = cc in (subst (λ (z : X). Contains (y ∷ ys) z) same (in_first y ys), ap t (sym same) ∙ on)
      go later false off is = let back = later is in (in_rest y ys x back.0, back.1)

  -- where none is found none passes
  pub none_found : (t : X → Bool) (xs : List X) (x : X) → find t xs ≡ None → Contains xs x → t x ≡ false
  none_found t [] x e h = absurd (in_none x h)
  none_found t (y ∷ ys) x e h = go (none_found t ys x) (t y) refl e
    where
      go : (find t ys ≡ None → Contains ys x → t x ≡ false) → (b : Bool) → t y ≡ b → cond b (Some y) (find t ys) ≡ None → t x ≡ false
      go later true on is = absurd cc
      go later false off is = elim (in_cases y ys x h) [
        | inl same ↦ ap t (sym same) ∙ off
        | inr there ↦ later is there
      ]

  pub none_kept : (t : X → Bool) (xs : List X) → ((x : X) → Contains xs x → t x ≡ false) → filter t xs ≡ []
  none_kept t [] each = refl
  none_kept t (x ∷ xs) each = ap (λ b. cond b (x ∷ filter t xs) (filter t xs)) (each x (in_first x xs)) ∙ none_kept t xs (λ y h. each y (in_rest x xs y h))

  pub any_was : (p : X → Bool) (xs : List X) → list_any p xs ≡ true → (x : X) × (Contains xs x × (p x ≡ true))
  any_was p [] e = absurd cc
  any_was p (x ∷ xs) e = go (any_was p xs) (p x) refl e
    where
      go : (list_any p xs ≡ true → (y : X) × (Contains xs y × (p y ≡ true))) → (b : Bool) → p x ≡ b → (b || list_any p xs) ≡ true → (y : X) × (Contains (x ∷ xs) y × (p y ≡ true))
      go later true on is = (x, (in_first x xs, on))
      go later false off is = let back = later is in (back.0, (in_rest x xs back.0 back.1.0, back.1.1))

  pub in_left : (xs ys : List X) (x : X) → Contains xs x → Contains (xs ++ ys) x
  in_left [] ys x h = absurd (in_none x h)
  in_left (z ∷ zs) ys x h = elim (in_cases z zs x h) [
    | inl same ↦ subst (λ (y : X). Contains (z ∷ (zs ++ ys)) y) same (in_first z (zs ++ ys))
    | inr later ↦ in_rest z (zs ++ ys) x (in_left zs ys x later)
  ]

  pub single : (x y : X) → Contains (x ∷ []) y → x ≡ y
  single x y h = elim (in_cases x [] y h) [ inl same ↦ same | inr later ↦ absurd (in_none y later) ]

  -- where a filter keeps none, each fails
  pub none_passes : (t : X → Bool) (xs : List X) → filter t xs ≡ [] → (x : X) → Contains xs x → t x ≡ false
  none_passes t xs none x h = elim (cases_Bool (t x)) [
    | inl is ↦ absurd (in_none x (subst (λ ys. Contains ys x) none (kept_in t xs x h is)))
    | inr is ↦ is
  ]

  pub in_right : (xs ys : List X) (x : X) → Contains ys x → Contains (xs ++ ys) x
  in_right [] ys x h = h
  in_right (z ∷ zs) ys x h = in_rest z (zs ++ ys) x (in_right zs ys x h)

pub in_mapped : {X Y : Type 0} (f : X → Y) (xs : List X) (x : X) → Contains xs x → Contains (map f xs) (f x)
in_mapped f [] x h = absurd (in_none x h)
in_mapped f (y ∷ ys) x h = elim (in_cases y ys x h) [
  | inl same ↦ subst (λ z. Contains (f y ∷ map f ys) (f z)) same (in_first (f y) (map f ys))
  | inr later ↦ in_rest (f y) (map f ys) (f x) (in_mapped f ys x later)
]

module _ {X Y : Type 0} where
  pub mapped_was : (f : X → Y) (xs : List X) (y : Y) → Contains (map f xs) y → (x : X) × (Contains xs x × (f x ≡ y))
  mapped_was f [] y h = absurd (in_none y h)
  mapped_was f (x ∷ xs) y h = elim (in_cases (f x) (map f xs) y h) [
    | inl same ↦ (x, (in_first x xs, same))
    | inr later ↦ (let back = mapped_was f xs y later in (back.0, (in_rest x xs back.0 back.1.0, back.1.1)))
  ]

  pub joined_was : (f : X → List Y) (xs : List X) (y : Y) → Contains (flat_map f xs) y → (x : X) × (Contains xs x × Contains (f x) y)
  joined_was f [] y h = absurd (in_none y h)
  joined_was f (x ∷ xs) y h = elim (in_either (f x) (flat_map f xs) y h) [
    | inl here ↦ (x, (in_first x xs, here))
    | inr later ↦ (let back = joined_was f xs y later in (back.0, (in_rest x xs back.0 back.1.0, back.1.1)))
  ]

module _ {X : Type 0} where
  pub map_same : (f : X → X) (xs : List X) → ((x : X) → Contains xs x → f x ≡ x) → map f xs ≡ xs
  map_same f [] each = refl
  map_same f (x ∷ xs) each = ap (λ y. y ∷ map f xs) (each x (in_first x xs)) ∙ ap (λ ys. x ∷ ys) (map_same f xs (λ y h. each y (in_rest x xs y h)))
