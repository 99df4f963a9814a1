-- The first place at which a test passes.
use Rattle.std.proofs.Common.{◌≡◌, ℕ, zero, suc, ◌+◌, ◌<◌, ◌≤◌, refl, sym, ap, ◌∙◌, Bool, true, false, List, [], ◌∷◌, length, get_or, arith}
use Rattle.std.specs.Prelude.{not, if◌then◌else◌}
use Rattle.std.specs.List.{position_or_len}

module _ {X : Type 0} (p : X → Bool) where
  here : (x : X) (xs : List X) → p x ≡ true → position_or_len p (x ∷ xs) ≡ 0
  here x xs e = rw e refl

  later : (x : X) (xs : List X) → p x ≡ false → position_or_len p (x ∷ xs) ≡ 1 + position_or_len p xs
  later x xs e = rw e refl

  -- none before passes, and the one there does, if one is there
  pub position_is : (xs : List X) (n : ℕ) → n ≤ length xs → ((k : ℕ) (d : X) → k < n → p (get_or xs k d) ≡ false) → ((d : X) → n < length xs → p (get_or xs n d) ≡ true) → position_or_len p xs ≡ n
  position_is [] n low before at = omega (arith, low)
  position_is (x ∷ xs) zero low before at = here x xs (at x (omega arith))
  position_is (x ∷ xs) (suc n) low before at =
      let rest : position_or_len p xs ≡ n = position_is xs n (omega (arith, low)) (λ k d h. before (suc k) d (omega (arith, h))) (λ d h. at d (omega (arith, h))) in
      let more : 1 + position_or_len p xs ≡ suc n = omega (arith, rest) in
      later x xs (before 0 x (omega arith)) ∙ more

  pub position_within : (xs : List X) → position_or_len p xs ≤ length xs
  position_within [] = omega arith
  position_within (x ∷ xs) = by (p x) refl (position_within xs) where
    by : (b : Bool) → p x ≡ b → position_or_len p xs ≤ length xs → position_or_len p (x ∷ xs) ≤ length (x ∷ xs)
    by true e h = omega (arith, here x xs e)
    by false e h = omega (arith, later x xs e, h)

  fails_step : (x : X) (xs : List X) (k : ℕ) (d : X) (b : Bool) → p x ≡ b → ((j : ℕ) → j < position_or_len p xs → p (get_or xs j d) ≡ false) → k < position_or_len p (x ∷ xs) → p (get_or (x ∷ xs) k d) ≡ false
  fails_step x xs k d true e f h = absurd (omega (arith, h, here x xs e))
  fails_step x xs zero d false e f h = e
  fails_step x xs (suc k) d false e f h = f k (omega (arith, h, later x xs e))

  pub fails_before_position : (xs : List X) (k : ℕ) (d : X) → k < position_or_len p xs → p (get_or xs k d) ≡ false
  fails_before_position [] k d h = absurd (omega (arith, h))
  fails_before_position (x ∷ xs) k d h = fails_step x xs k d (p x) refl (λ j low. fails_before_position xs j d low) h

  passes_step : (x : X) (xs : List X) (d : X) (b : Bool) → p x ≡ b → (position_or_len p xs < length xs → p (get_or xs (position_or_len p xs) d) ≡ true) → position_or_len p (x ∷ xs) < length (x ∷ xs)
      → p (get_or (x ∷ xs) (position_or_len p (x ∷ xs)) d) ≡ true
  passes_step x xs d true e f h = ap (λ n. p (get_or (x ∷ xs) n d)) (here x xs e) ∙ e
  passes_step x xs d false e f h =
      let low : position_or_len p xs < length xs = omega (arith, h, later x xs e) in
      let next : position_or_len p (x ∷ xs) ≡ suc (position_or_len p xs) = omega (arith, later x xs e) in
      ap (λ n. p (get_or (x ∷ xs) n d)) next ∙ f low

  pub passes_at_position : (xs : List X) (d : X) → position_or_len p xs < length xs → p (get_or xs (position_or_len p xs) d) ≡ true
  passes_at_position [] d h = absurd (omega (arith, h))
  passes_at_position (x ∷ xs) d h = passes_step x xs d (p x) refl (passes_at_position xs d) h
