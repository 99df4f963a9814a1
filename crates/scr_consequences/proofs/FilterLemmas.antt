-- Filters of filters, and how long they are.
use Rattle.std.proofs.Common.{◌≡◌, ℕ, zero, suc, ◌<◌, ◌≤◌, Bool, true, false, List, [], ◌∷◌, length, get_or, ◌∙◌, ap, sym, refl, arith, cond}
use Rattle.std.specs.Prelude.{filter}
use Rattle.std.specs.List.{Contains}

module _ {X : Type 0} where
  twice_by : (p : X → Bool) (x : X) (kept all : List X) (b : Bool) → (b ≡ false → p x ≡ false) → filter p kept ≡ all
      → filter p (cond b (x ∷ kept) kept) ≡ cond (p x) (x ∷ all) all
  twice_by p x kept all true weaker e = ap (λ (l : List X). cond (p x) (x ∷ l) l) e
  twice_by p x kept all false weaker e = e ∙ ap (λ b. cond b (x ∷ all) all) (sym (weaker refl))

  -- what fails a second test fails the first one: to leave it out before makes no difference
  pub filter_twice : (p q : X → Bool) → ((x : X) → q x ≡ false → p x ≡ false) → (xs : List X) → filter p (filter q xs) ≡ filter p xs
  filter_twice p q weaker [] = refl
  filter_twice p q weaker (x ∷ xs) = twice_by p x (filter q xs) (filter p xs) (q x) (weaker x) (filter_twice p q weaker xs)

  length_by : (x : X) (kept : List X) (n : ℕ) (b : Bool) → length kept ≤ n → length (cond b (x ∷ kept) kept) ≤ suc n
  length_by x kept n true le = omega (arith, le)
  length_by x kept n false le = omega (arith, le)

  filter_no_longer : (q : X → Bool) (xs : List X) → length (filter q xs) ≤ length xs
  filter_no_longer q [] = omega arith
  filter_no_longer q (x ∷ xs) = length_by x (filter q xs) (length xs) (q x) (filter_no_longer q xs)

  left_out : (x : X) (kept : List X) (n : ℕ) (b : Bool) → b ≡ false → length kept ≤ n → length (cond b (x ∷ kept) kept) < suc n
  left_out x kept n true e le = cc
  left_out x kept n false e le = omega (arith, le)

  shorter_by : (x : X) (kept : List X) (n : ℕ) (b : Bool) → length kept < n → length (cond b (x ∷ kept) kept) < suc n
  shorter_by x kept n true lt = omega (arith, lt)
  shorter_by x kept n false lt = omega (arith, lt)

  filter_shorter_at : (q : X → Bool) (xs : List X) (k : ℕ) (d : X) → k < length xs → q (get_or xs k d) ≡ false → length (filter q xs) < length xs
  filter_shorter_at q [] k d within fails = absurd (omega arith)
  filter_shorter_at q (x ∷ xs) zero d within fails = left_out x (filter q xs) (length xs) (q x) fails (filter_no_longer q xs)
  filter_shorter_at q (x ∷ xs) (suc k) d within fails = shorter_by x (filter q xs) (length xs) (q x) (filter_shorter_at q xs k d (omega arith) fails)

  -- a filter is shorter than its list where an item fails
  pub filter_shorter : (q : X → Bool) (xs : List X) (x : X) → Contains xs x → q x ≡ false → length (filter q xs) < length xs
  filter_shorter q xs x at fails = filter_shorter_at q xs at.0 x at.1 (ap q at.2 ∙ fails)

  -- an item of a list is there
  pub there_at : (xs : List X) (i : ℕ) (x : X) → i < length xs → x ≡ get_or xs i x → Contains xs x
  there_at xs i x within e = (i, within, sym e)

  -- a filter keeps a list of which all pass
  pub kept_all : (p : X → Bool) (xs : List X) → ((x : X) → Contains xs x → p x ≡ true) → filter p xs ≡ xs
  kept_all p [] all = refl
  kept_all p (x ∷ xs) all =
      ap (λ b. cond b (x ∷ filter p xs) (filter p xs)) (all x (0, omega arith, refl))
      ∙ ap (λ (l : List X). x ∷ l) (kept_all p xs (λ y there. all y (suc there.0, omega (arith, there.1), there.2)))
