-- What a list becomes whose items are lent to be changed in place.
use Rattle.std.specs.Prelude.{List, ◌++◌, length, take, drop}
use Rattle.std.specs.Borrow.{Lends, Fml, RattleType, MutBor, Array}
use Rattle.prop_map.specs.contracts.list.List.{the_row}

-- the items as they were left, which are as many as before
abbrev pub as_left : {X : Type 0} → List X → List X → List X
as_left items left = take (length items) (left ++ drop (length left) items)

-- the list ends with the items as they were left
abbrev pub lends_items : (T : RattleType) → MutBor (the_row T).Denot → MutBor (Array T 0).Denot → Fml
lends_items T list items = Lends (the_row T) (Array T 0) list items (as_left list.now)
