-- Rows with rising numbers.
use Rattle.std.proofs.Common.{◌≡◌, ℕ, zero, suc, ◌<◌, List, [], ◌∷◌, ◌∙◌, ap, false, refl, cond, arith, get_or, eqb}
use Rattle.std.specs.Prelude.{Some, ◌==◌, find, map}
use Rattle.std.specs.List.{All, AllPairs}
use Rattle.std.proofs.lemmas.Bool.{eq-eqb}
use Rattle.std.proofs.lemmas.List.Elements.{All-cons, All-map, All-nil}
use Rattle.std.proofs.lemmas.List.Kept.{AllPairs-cons}
use Rattle.scr_consequences.proofs.SortedLemmas.{eqb-ne}

module _ {X : Type 0} (key : X → ℕ) where
  abbrev pub AreRising : List X → Type 0
  AreRising xs = AllPairs (λ a b. key a < key b) xs

  -- an item is the one that its number finds
  abbrev pub IsOwn : List X → X → Type 0
  IsOwn xs x = find (λ y. key y == key x) xs ≡ Some x

  pub rising_rest : (x : X) (xs : List X) → AreRising (x ∷ xs) → AreRising xs
  rising_rest x xs rising i j d lt within = rising (suc i) (suc j) d (omega arith) (omega (arith, within))

  pub above_first : (x : X) (xs : List X) → AreRising (x ∷ xs) → All (λ y. key x < key y) xs
  above_first x xs rising k d within = rising zero (suc k) d (omega arith) (omega (arith, within))

  -- items behind a lower one are found as before
  behind_own : (x : X) (all xs : List X) → All (λ y. key x < key y) xs → All (IsOwn all) xs → All (IsOwn (x ∷ all)) xs
  behind_own x all xs above own k d within =
      let y = get_or xs k d in
      let other : eqb (key x) (key y) ≡ false = eqb-ne (key x) (key y) (λ e. omega (arith, above k d within)) in
      ap (λ b. cond b (Some x) (find (λ z. key z == key y) all)) other ∙ own k d within

  -- items with rising numbers are found by them
  pub own_items : (xs : List X) → AreRising xs → All (IsOwn xs) xs
  own_items [] rising = All-nil (IsOwn [])
  own_items (x ∷ xs) rising =
      All-cons (IsOwn (x ∷ xs)) x xs
      (ap (λ b. cond b (Some x) (find (λ z. key z == key x) xs)) (eq-eqb (key x) (key x) refl))
      (behind_own x xs xs (above_first x xs rising) (own_items xs (rising_rest x xs rising)))

  -- their numbers rise
  pub numbers_rise : (xs : List X) → AreRising xs → AllPairs (λ (a b : ℕ). a < b) (map key xs)
  numbers_rise [] rising = λ i j d lt within. absurd (omega arith)
  numbers_rise (x ∷ xs) rising =
      AllPairs-cons (λ (a b : ℕ). a < b) (key x) (map key xs) (All-map (λ n. key x < n) key xs (above_first x xs rising)) (numbers_rise xs (rising_rest x xs rising))
