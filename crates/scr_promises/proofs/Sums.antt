-- Sums over lists, item by item.
use Rattle.std.proofs.Common.{◌≡◌, ◌≤◌, ℕ, ◌+◌, ◌*◌, List, [], ◌∷◌, ◌++◌, ap, sym, ◌∙◌, refl, subst, cond, arith, length, Bool, true, false, inl, inr}
use Rattle.std.specs.Prelude.{filter, map, sum, sum_by}
use Rattle.std.specs.List.{Contains}
use Rattle.std.proofs.lemmas.List.Sums.{sum-map, sum_by-append, sum_by-cons}
use Rattle.component_state.proofs.Apart.{in_cases, in_first, in_none, in_rest}

-- the sum of what a function makes of the items
abbrev pub total : {X : Type 0} → (X → ℕ) → List X → ℕ
total f xs = sum (map f xs)

module _ {X : Type 0} where
  pub total_cons : (f : X → ℕ) (x : X) (xs : List X) → total f (x ∷ xs) ≡ f x + total f xs
  total_cons f x xs = sum-map f (x ∷ xs) ∙ sum_by-cons f x xs ∙ ap (λ n. f x + n) (sym (sum-map f xs))

  pub total_over : (f : X → ℕ) (xs ys : List X) → total f (xs ++ ys) ≡ total f xs + total f ys
  total_over f xs ys = sum-map f (xs ++ ys) ∙ sum_by-append f xs ys ∙ ap (λ n. n + sum_by f ys) (sym (sum-map f xs)) ∙ ap (λ n. total f xs + n) (sym (sum-map f ys))

  -- item by item no more
  pub total_low : (f g : X → ℕ) (xs : List X) → ((x : X) → Contains xs x → f x ≤ g x) → total f xs ≤ total g xs
  total_low f g [] each = omega arith
  total_low f g (x ∷ xs) each =
      let one = each x (in_first x xs) in
      let rest = total_low f g xs (λ y h. each y (in_rest x xs y h)) in
      let a = total_cons f x xs in
      let b = total_cons g x xs in
      omega (arith, one, rest, a, b)

  -- and of one item less
  pub total_less : (f g : X → ℕ) (xs : List X) → ((x : X) → Contains xs x → f x ≤ g x) → (x : X) → Contains xs x → f x + 1 ≤ g x → total f xs + 1 ≤ total g xs
  total_less f g [] each x h less = absurd (in_none x h)
  total_less f g (y ∷ ys) each x h less =
      let a = total_cons f y ys in
      let b = total_cons g y ys in
      elim (in_cases y ys x h) [
        | inl same ↦ (
            let rest = total_low f g ys (λ z k. each z (in_rest y ys z k)) in
            let one = subst (λ (z : X). f z + 1 ≤ g z) (sym same) less in
            omega (arith, one, rest, a, b))
        | inr later ↦ (
            let one = each y (in_first y ys) in
            let rest = total_less f g ys (λ z k. each z (in_rest y ys z k)) x later less in
            omega (arith, one, rest, a, b))
      ]

  -- an item counts in it
  pub total_has : (f : X → ℕ) (xs : List X) (x : X) → Contains xs x → f x ≤ total f xs
  total_has f [] x h = absurd (in_none x h)
  total_has f (y ∷ ys) x h =
      let a = total_cons f y ys in
      elim (in_cases y ys x h) [
        | inl same ↦ subst (λ (z : X). f z ≤ total f (y ∷ ys)) same (omega (arith, a))
        | inr later ↦ (let rest = total_has f ys x later in omega (arith, a, rest))
      ]

  -- the items that a test leaves, each changed
  pub total_kept : (t : X → Bool) (f : X → X) (g h : X → ℕ) (xs : List X) → ((x : X) → Contains xs x → t (f x) ≡ true → g (f x) ≤ h x) → total g (filter t (map f xs)) ≤ total h xs
  total_kept t f g h [] each = omega arith
  total_kept t f g h (x ∷ xs) each = go (total_kept t f g h xs (λ y k. each y (in_rest x xs y k))) (t (f x)) refl
    where
      go : total g (filter t (map f xs)) ≤ total h xs → (b : Bool) → t (f x) ≡ b → total g (cond b (f x ∷ filter t (map f xs)) (filter t (map f xs))) ≤ total h (x ∷ xs)
      go rest true on =
          let one = each x (in_first x xs) on in
          let a = total_cons g (f x) (filter t (map f xs)) in
          let b = total_cons h x xs in
          omega (arith, one, rest, a, b)
      go rest false off = (let b = total_cons h x xs in omega (arith, rest, b))

  pub total_mapped : (f : X → X) (g : X → ℕ) (xs : List X) → total g (map f xs) ≡ total (λ x. g (f x)) xs
  total_mapped f g [] = refl
  total_mapped f g (x ∷ xs) = total_cons g (f x) (map f xs) ∙ ap (λ n. g (f x) + n) (total_mapped f g xs) ∙ sym (total_cons (λ y. g (f y)) x xs)

  -- at most so much for each item
  pub total_count : (f : X → ℕ) (n : ℕ) (xs : List X) → ((x : X) → Contains xs x → f x ≤ n) → total f xs ≤ n * length xs
  total_count f n [] each = omega arith
  total_count f n (x ∷ xs) each =
      let one = each x (in_first x xs) in
      let rest = total_count f n xs (λ y h. each y (in_rest x xs y h)) in
      let a = total_cons f x xs in
      let more : n * length (x ∷ xs) ≡ n + n * length xs = omega arith in
      omega (arith, one, rest, a, more)

  pub total_times : (f g : X → ℕ) (n : ℕ) (xs : List X) → ((x : X) → Contains xs x → f x ≤ n * g x) → total f xs ≤ n * total g xs
  total_times f g n [] each = omega arith
  total_times f g n (x ∷ xs) each =
      let one = each x (in_first x xs) in
      let rest = total_times f g n xs (λ y h. each y (in_rest x xs y h)) in
      let a = total_cons f x xs in
      let b = ap (λ m. n * m) (total_cons g x xs) in
      let c : n * (g x + total g xs) ≡ n * g x + n * total g xs = omega arith in
      omega (arith, one, rest, a, b, c)

  pub total_both : (f g : X → ℕ) (xs : List X) → total (λ x. f x + g x) xs ≡ total f xs + total g xs
  total_both f g [] = refl
  total_both f g (x ∷ xs) =
      let rest = total_both f g xs in
      let a = total_cons (λ y. f y + g y) x xs in
      let b = total_cons f x xs in
      let c = total_cons g x xs in
      omega (arith, rest, a, b, c)

  -- and of one item so much less
  pub total_drops : (n : ℕ) (f g : X → ℕ) (xs : List X) → ((x : X) → Contains xs x → f x ≤ g x) → (x : X) → Contains xs x → f x + n ≤ g x → total f xs + n ≤ total g xs
  total_drops n f g [] each x h less = absurd (in_none x h)
  total_drops n f g (y ∷ ys) each x h less =
      let a = total_cons f y ys in
      let b = total_cons g y ys in
      elim (in_cases y ys x h) [
        | inl same ↦ (
            let rest = total_low f g ys (λ z k. each z (in_rest y ys z k)) in
            let one = subst (λ (z : X). f z + n ≤ g z) (sym same) less in
            omega (arith, one, rest, a, b))
        | inr later ↦ (
            let one = each y (in_first y ys) in
            let rest = total_drops n f g ys (λ z k. each z (in_rest y ys z k)) x later less in
            omega (arith, one, rest, a, b))
      ]
