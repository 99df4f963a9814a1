-- Where the one row of a table stands that is asked for, by its number or its text. Our own.
use Rattle.std.specs.Prelude.{◌≡◌, ℕ, zero, suc, ◌≤◌, List, [], ◌∷◌, length, Bool, true, false, Option, Some, None, Result, Ok, Err}
use Rattle.std.specs.List.Sorted.{IsPartitionPoint}
use Rattle.std.specs.Ordering.{is_eq}
use Rattle.std.specs.declared.cmp.Ordering.{Ordering}
use Rattle.std.specs.declared.cmp.Ordering.TheVariants.{Less, Greater}

module _ {X : Type 0} (test : X → Bool) where
  -- no row passes
  abbrev pub NoneOf : List X → Type 0
  NoneOf [] = Unit {0}
  NoneOf (x ∷ xs) = (test x ≡ false) × NoneOf xs

  -- the row at a place passes, and no other
  abbrev pub OnlyAt : ℕ → List X → Type 0
  OnlyAt place [] = ⊥
  OnlyAt zero (x ∷ xs) = (test x ≡ true) × NoneOf xs
  OnlyAt (suc place) (x ∷ xs) = (test x ≡ false) × OnlyAt place xs

  -- the place of the one row that passes, or none where no row does
  abbrev pub IsOnlyPlace : Option ℕ → List X → Type 0
  IsOnlyPlace None xs = NoneOf xs
  IsOnlyPlace (Some place) xs = OnlyAt place xs

-- the place of the one row that is equal to what is sought, or the gap where it would stand
abbrev pub IsPlaceOrGap : {X : Type 0} → (X → Ordering) → Result ℕ ℕ → List X → Type 0
IsPlaceOrGap order (Ok place) xs = OnlyAt (λ x. is_eq (order x)) place xs
IsPlaceOrGap order (Err place) xs = (place ≤ length xs) × IsPartitionPoint (λ x. order x ≡ Less) (λ x. order x ≡ Greater) xs place
