-- A list with another item at a place, or without the one there. What only code and proofs need.
use Rattle.std.specs.Prelude.{ℕ, List, Option, Some, None, remove, slice_set}

module _ {X : Type 0} where
  abbrev pub set_at : Option ℕ → X → List X → List X
  set_at None x xs = xs
  set_at (Some place) x xs = slice_set xs place x

  abbrev pub removed_at : Option ℕ → List X → List X
  removed_at None xs = xs
  removed_at (Some place) xs = remove xs place
