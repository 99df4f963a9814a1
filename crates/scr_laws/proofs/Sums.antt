-- Sums over lists whose items change.
use Rattle.std.proofs.Common.{◌≡◌, ◌≤◌, ℕ, suc, ◌+◌, List, [], ◌∷◌, ◌++◌, length, ap, sym, ◌∙◌, refl, subst, cond, arith, Bool, true, false, ◌||◌, inl, inr}
use Rattle.std.specs.Prelude.{map, filter, not, sum}
use Rattle.std.specs.List.{Contains, list_any}
use Rattle.std.proofs.lemmas.Bool.{and_parts, both_ways}
use Rattle.std.proofs.lemmas.List.Sums.{sum-map, sum_by-cons, sum_by_push}
use Rattle.component_state.specs.Inside.Ready.{are_apart}
use Rattle.component_state.proofs.Apart.{in_cases, in_first, in_none, in_rest, key_in, kept_short, not_true}
use Rattle.prop_map.specs.Words.{has}

module _ {X : Type 0} (f : X → ℕ) where
  abbrev pub total : List X → ℕ
  total xs = sum (map f xs)

  pub total-cons : (x : X) (xs : List X) → total (x ∷ xs) ≡ f x + total xs
  total-cons x xs = sum-map f (x ∷ xs) ∙ sum_by-cons f x xs ∙ ap (λ n. f x + n) (sym (sum-map f xs))

  pub total_push : (xs : List X) (x : X) → total (xs ++ x ∷ []) ≡ total xs + f x
  total_push xs x = sum-map f (xs ++ x ∷ []) ∙ sum_by_push f xs x ∙ ap (λ n. n + f x) (sym (sum-map f xs))

  pub total_same : (g : X → X) (xs : List X) → ((x : X) → Contains xs x → f (g x) ≡ f x) → total (map g xs) ≡ total xs
  total_same g [] each = refl
  total_same g (x ∷ xs) each = omega (arith, total-cons (g x) (map g xs), total-cons x xs, each x (in_first x xs), total_same g xs (λ y h. each y (in_rest x xs y h)))

  -- where one of them changes
  pub total_changed : (key : X → ℕ) (g : X → X) (n : ℕ) → ((y : X) → (key y ≡ n → ⊥) → f (g y) ≡ f y) → (xs : List X) → are_apart (map key xs) ≡ true → (x : X) → Contains xs x → key x ≡ n
      → total (map g xs) + f x ≡ total xs + f (g x)
  total_changed key g n others [] apart x h its = absurd (in_none x h)
  total_changed key g n others (y ∷ ys) apart x h its = elim (in_cases y ys x h) [
    | inl same ↦ (
        let rest = total_same g ys (λ z k. others z (λ e. both_ways (has (map key ys) (key y)) none (ap (has (map key ys)) (ap key same ∙ its ∙ sym e) ∙ key_in key ys z k))) in
        let this = ap f same in
        let that = ap (λ z. f (g z)) same in
        omega (arith, total-cons (g y) (map g ys), total-cons y ys, rest, this, that))
    | inr later ↦ (
        let rest = total_changed key g n others ys parts.1 x later its in
        let left = others y (λ e. both_ways (has (map key ys) (key y)) none (ap (has (map key ys)) (e ∙ sym its) ∙ key_in key ys x later)) in
        omega (arith, total-cons (g y) (map g ys), total-cons y ys, rest, left))
  ]
    where
      parts : (not (has (map key ys) (key y)) ≡ true) × (are_apart (map key ys) ≡ true)
      parts = and_parts (not (has (map key ys) (key y))) (are_apart (map key ys)) apart

      none : has (map key ys) (key y) ≡ false
      none = not_true (has (map key ys) (key y)) parts.0

  pub total_no_more : (g : X → X) (xs : List X) → ((x : X) → f (g x) ≤ f x) → total (map g xs) ≤ total xs
  total_no_more g [] each = omega arith
  total_no_more g (x ∷ xs) each = omega (arith, total-cons (g x) (map g xs), total-cons x xs, each x, total_no_more g xs each)

  pub total_falls : (g : X → X) (xs : List X) → ((x : X) → f (g x) ≤ f x) → (x : X) → Contains xs x → f (g x) + 1 ≤ f x → total (map g xs) + 1 ≤ total xs
  total_falls g [] each x h falls = absurd (in_none x h)
  total_falls g (y ∷ ys) each x h falls = elim (in_cases y ys x h) [
    | inl same ↦ (
        let here : f (g y) + 1 ≤ f y = subst (λ z. f (g z) + 1 ≤ f z) (sym same) falls in
        omega (arith, total-cons (g y) (map g ys), total-cons y ys, here, total_no_more g ys each))
    | inr later ↦ omega (arith, total-cons (g y) (map g ys), total-cons y ys, each y, total_falls g ys each x later falls)
  ]

  pub total_kept : (p : X → Bool) (xs : List X) → total (filter p xs) ≤ total xs
  total_kept p [] = omega arith
  total_kept p (x ∷ xs) = go (p x) (total_kept p xs)
    where
      go : (b : Bool) → total (filter p xs) ≤ total xs → total (cond b (x ∷ filter p xs) (filter p xs)) ≤ total (x ∷ xs)
      go true less = omega (arith, total-cons x (filter p xs), total-cons x xs, less)
      go false less = omega (arith, total-cons x xs, less)

  -- what isn't kept counts nothing
  pub total_all_kept : (p : X → Bool) (xs : List X) → ((x : X) → Contains xs x → p x ≡ false → f x ≡ 0) → total (filter p xs) ≡ total xs
  total_all_kept p [] none = refl
  total_all_kept p (x ∷ xs) none = go (p x) refl (total_all_kept p xs (λ y h. none y (in_rest x xs y h)))
    where
      go : (b : Bool) → p x ≡ b → total (filter p xs) ≡ total xs → total (cond b (x ∷ filter p xs) (filter p xs)) ≡ total (x ∷ xs)
      go true on rest = omega (arith, total-cons x (filter p xs), total-cons x xs, rest)
      go false off rest = (let zero = none x (in_first x xs) off in omega (arith, total-cons x xs, rest, zero))

-- one that passes a test is taken out
pub shorter : {X : Type 0} (p : X → Bool) (xs : List X) → list_any p xs ≡ true → length (filter (λ x. not (p x)) xs) + 1 ≤ length xs
shorter p [] some = cc
shorter p (x ∷ xs) some = go (shorter p xs) (p x) some
  where
    go : (list_any p xs ≡ true → length (filter (λ y. not (p y)) xs) + 1 ≤ length xs) → (b : Bool) → (b || list_any p xs) ≡ true
        → length (cond (not b) (x ∷ filter (λ y. not (p y)) xs) (filter (λ y. not (p y)) xs)) + 1 ≤ suc (length xs)
    go rest true h = omega (arith, kept_short (λ y. not (p y)) xs)
    go rest false h = (let less = rest h in omega (arith, less))
