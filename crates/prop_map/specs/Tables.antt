-- Tables whose rows stand by ascending number. Our own.
use Rattle.std.specs.Prelude.{ℕ, ◌<◌, ◌==◌, List, [], ◌∷◌, if◌then◌else◌}
use Rattle.std.specs.List.{Contains}

module _ {X : Type 0} (number_of : X → ℕ) where
  -- each row has a lower number than those behind it
  abbrev pub IsAscending : List X → Type 0
  IsAscending [] = Unit {0}
  IsAscending (x ∷ xs) = ((y : X) → Contains xs y → number_of x < number_of y) × IsAscending xs

  -- the row of a number as f makes it
  abbrev pub changed : (X → X) → ℕ → X → X
  changed f number x = if number_of x == number then f x else x
