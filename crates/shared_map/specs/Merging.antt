-- How the rows of two lists by key are made one. Our own.
use Rattle.std.specs.Prelude.{List, [], ◌∷◌, ◌++◌, Option, Some, None}
use Rattle.std.specs.Ordering.{match_ordering}
use Rattle.shared_map.specs.declared.rows.Row.{Row}
use Rattle.shared_map.specs.Rows.{AreByKey, HaveSameRows, key_cmp}

-- the first row by key, and what is left of an older list and a newer one: of a key that both have, the newer row
abbrev pub next_row : {V : Type 0} → List (Row V) → List (Row V) → Option (Row V × List (Row V) × List (Row V))
next_row [] [] = None
next_row [] (n ∷ newer) = Some (n, [], newer)
next_row (o ∷ older) [] = Some (o, older, [])
next_row (o ∷ older) (n ∷ newer) = match_ordering (key_cmp o n) (Some (o, older, n ∷ newer)) (Some (n, older, newer)) (Some (n, o ∷ older, newer))

-- midway: the rows so far, what is left of each list, and the rows that are to come out
pub record AreMerging {V : Type 0} (rows older newer whole : List (Row V)) : Type 0 where
  pub older_order : AreByKey (rows ++ older)
  pub newer_order : AreByKey (rows ++ newer)
  pub same : HaveSameRows (rows ++ (newer ++ older)) whole
