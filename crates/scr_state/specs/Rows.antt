-- What a change makes of the rows of a table, and the change that brings back what there was. Our own.
use Rattle.std.specs.Prelude.{◌≡◌, ◌<◌, ◌≤◌, ◌+◌, ℕ, List, insert, length, remove, slice_index_or, slice_set}
use Rattle.scr_state.specs.declared.row_change.RowChange.{RowChange}
use Rattle.scr_state.specs.declared.row_change.RowChange.TheVariants.{Same, One, Inserted, Removed}

module _ {X : Type 0} where
  -- the rows after a change
  abbrev pub with_change : RowChange X → List X → List X
  with_change Same before = before
  with_change (One place row) before = slice_set before place row
  with_change (Inserted place row room) before = insert before place row
  with_change (Removed place room) before = remove before place

  -- a row that comes or goes has its place there, and room for the rows then
  abbrev pub HasRoomAmong : RowChange X → List X → Type 0
  HasRoomAmong Same before = Unit {0}
  HasRoomAmong (One place row) before = Unit {0}
  HasRoomAmong (Inserted place row room) before = (place ≤ length before) × (length before + 1 ≤ room)
  HasRoomAmong (Removed place room) before = (place < length before) × (length before ≤ room + 1)

  -- a change brings back the rows before another one
  abbrev pub Undoes : RowChange X → List X → RowChange X → Type 0
  Undoes Same before undo = undo ≡ Same
  Undoes (One place row) before undo = undo ≡ One place (slice_index_or before place row)
  Undoes (Inserted place row room) before undo = (left : ℕ) × (undo ≡ Removed place left)
  Undoes (Removed place room) before undo = (row : X) × ((row ≡ slice_index_or before place row) × ((left : ℕ) × (undo ≡ Inserted place row left)))
