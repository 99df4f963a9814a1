-- Rows of a key and a value. Our own.
use Rattle.std.specs.Prelude.{◌≡◌, ℕ, List, [], ◌∷◌, Bool, Option, find}
use Rattle.std.specs.Cmp.Lexicographic.{slice_cmp}
use Rattle.std.specs.List.{AllByRecursion}
use Rattle.std.specs.Option.{option_map}
use Rattle.std.specs.Ordering.{nat_cmp}
use Rattle.std.specs.Str.{bytes_eq}
use Rattle.std.specs.declared.cmp.Ordering.{Ordering}
use Rattle.std.specs.declared.cmp.Ordering.TheVariants.{Less}
use Rattle.shared_map.specs.declared.rows.Row.{Row}

-- whether a row is under a key
abbrev pub is_of : {V : Type 0} → List ℕ → Row V → Bool
is_of key r = bytes_eq r.key key

-- the value of a key's first row, none where it has no row
abbrev pub value_of : {V : Type 0} → List ℕ → List (Row V) → Option V
value_of {V} key rows = option_map (λ (r : Row V). r.value) (find (is_of key) rows)

-- rows that give each key the same first row
abbrev pub HaveSameRows : {V : Type 0} → List (Row V) → List (Row V) → Type 0
HaveSameRows rows others = (key : List ℕ) → find (is_of key) rows ≡ find (is_of key) others

-- how the keys of two rows stand, in byte order
abbrev pub key_cmp : {V : Type 0} → Row V → Row V → Ordering
key_cmp r s = slice_cmp nat_cmp r.key s.key

-- the rows stand by key in byte order, and each key has one
abbrev pub AreByKey : {V : Type 0} → List (Row V) → Type 0
AreByKey [] = Unit {0}
AreByKey (r ∷ rows) = AllByRecursion (λ s. key_cmp r s ≡ Less) rows × AreByKey rows
