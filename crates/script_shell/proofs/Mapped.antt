-- A list of which the first items are changed already.
use Rattle.std.proofs.Common.{◌≡◌, ◌<◌, ◌+◌, ℕ, zero, suc, List, [], ◌∷◌, length, map, get_or, refl, ap, sym, ◌∙◌, arith}
use Rattle.std.proofs.Math.ListN.{set}

module _ {X : Type 0} (f : X → X) where
  -- the first items of a list changed, and the others as they are
  abbrev pub mapped : ℕ → List X → List X
  mapped i [] = []
  mapped zero (x ∷ xs) = x ∷ xs
  mapped (suc i) (x ∷ xs) = f x ∷ mapped i xs

  pub mapped_none : (xs : List X) → xs ≡ mapped 0 xs
  mapped_none [] = refl
  mapped_none (x ∷ xs) = refl

  pub mapped_all : (i : ℕ) (xs : List X) → i ≡ length xs → mapped i xs ≡ map f xs
  mapped_all i [] e = refl
  mapped_all zero (x ∷ xs) e = absurd (omega (arith, e))
  mapped_all (suc i) (x ∷ xs) e = ap (λ ys. f x ∷ ys) (mapped_all i xs (omega (arith, e)))

  pub mapped_get : (i : ℕ) (xs : List X) (d : X) → get_or (mapped i xs) i d ≡ get_or xs i d
  mapped_get i [] d = refl
  mapped_get zero (x ∷ xs) d = refl
  mapped_get (suc i) (x ∷ xs) d = mapped_get i xs d

  mapped_set : (i : ℕ) (xs : List X) (d : X) → i < length xs → set (mapped i xs) i (f (get_or xs i d)) ≡ mapped (suc i) xs
  mapped_set i [] d low = absurd (omega (arith, low))
  mapped_set zero (x ∷ xs) d low = ap (λ ys. f x ∷ ys) (mapped_none xs)
  mapped_set (suc i) (x ∷ xs) d low = ap (λ ys. f x ∷ ys) (mapped_set i xs d (omega (arith, low)))

  mapped_same : (i : ℕ) (xs : List X) (d : X) → i < length xs → f (get_or xs i d) ≡ get_or xs i d → mapped i xs ≡ mapped (suc i) xs
  mapped_same i [] d low e = absurd (omega (arith, low))
  mapped_same zero (x ∷ xs) d low e = ap (λ y. y ∷ xs) (sym e) ∙ ap (λ ys. f x ∷ ys) (mapped_none xs)
  mapped_same (suc i) (x ∷ xs) d low e = ap (λ ys. f x ∷ ys) (mapped_same i xs d (omega (arith, low)) e)

  pub mapped_more : (i : ℕ) (xs ys : List X) (d y : X) → i < length xs → ys ≡ mapped i xs → y ≡ f (get_or ys i d) → set ys i y ≡ mapped (i + 1) xs
  mapped_more i xs ys d y low is new =
      ap (λ zs. set zs i y) is ∙ ap (set (mapped i xs) i) (new ∙ ap f (ap (λ zs. get_or zs i d) is ∙ mapped_get i xs d)) ∙ mapped_set i xs d low ∙ ap (λ k. mapped k xs) {x = suc i} {y = i + 1} (omega arith)

  pub mapped_on : (i : ℕ) (xs ys : List X) (d : X) → i < length xs → ys ≡ mapped i xs → f (get_or ys i d) ≡ get_or ys i d → ys ≡ mapped (i + 1) xs
  mapped_on i xs ys d low is same =
      let at = ap (λ zs. get_or zs i d) is ∙ mapped_get i xs d in
      is ∙ mapped_same i xs d low (ap f (sym at) ∙ same ∙ at) ∙ ap (λ k. mapped k xs) {x = suc i} {y = i + 1} (omega arith)
