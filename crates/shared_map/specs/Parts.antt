-- The parts of a map, the oldest first. Our own.
use Rattle.std.specs.Prelude.{List, [], ◌∷◌, ◌++◌}
use Rattle.std.specs.List.{AllByRecursion}
use Rattle.shared_map.specs.declared.rows.Row.{Row}
use Rattle.shared_map.specs.Rows.{AreByKey}

-- the rows of the parts, the newest part first
abbrev pub rows_of : {V : Type 0} → List (List (Row V)) → List (Row V)
rows_of [] = []
rows_of (part ∷ parts) = rows_of parts ++ part

-- each part is by key
abbrev pub AreParts : {V : Type 0} → List (List (Row V)) → Type 0
AreParts parts = AllByRecursion AreByKey parts
