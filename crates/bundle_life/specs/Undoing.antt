-- What undoes a step of a bundle. Our own.
use Rattle.std.specs.Ordering.{is_lt, nat_cmp}
use Rattle.std.specs.List.{slice_get}
use Rattle.std.specs.Prelude.{◌≡◌, ◌==◌, ◌&&◌, ◌<◌, ◌≤◌, ◌+◌, ◌-◌, ℕ, List, ◌++◌, Bool, false, Option, Some, length, take, if◌then◌else◌}
use Rattle.prop_map.specs.Words.{insert_by}
use Rattle.bundle_life.specs.declared.bundle.BundleEvent.{BundleEvent}
use Rattle.bundle_life.specs.declared.bundle.BundleLife.{BundleLife}
use Rattle.bundle_life.specs.Lives.{BundleTable, bundle_of, is_installed, is_stopping, state_is}
use Rattle.bundle_life.specs.Numbers.{AreNumbered, IsGiven, SavedBundles, stops, without_number}

-- what is kept of a bundle before a step: its row, how many events there were, and for how many rows there is room
pub record Kept : Type 0 where
  pub row : BundleLife
  pub events : ℕ
  pub room : ℕ

abbrev pub has_lower_number : BundleLife → BundleLife → Bool
has_lower_number b c = is_lt (nat_cmp b.number c.number)

-- a row in the place of the one of its number, or where it belongs
abbrev pub with_row : BundleLife → List BundleLife → List BundleLife
with_row b rows = insert_by has_lower_number b (without_number b.number rows)

-- the row that was kept, and of the events the first, as many as there were
abbrev pub with_kept : Kept → BundleTable → BundleTable
with_kept kept t = record t { rows = with_row kept.row t.rows; events = take kept.events t.events }

-- a bundle that is STOPPING owes an event
abbrev pub owing : Bool → ℕ
owing stopping = if stopping then 1 else 0

-- what was kept can be put back without memory: its number was given, there is room for the row, and for an event that it owes
pub record CanPutBack (kept : Kept) (t : BundleTable) : Type 0 where
  pub given : IsGiven t.numbered kept.row
  pub room : length (without_number kept.row.number t.rows) < kept.room
  pub owed : kept.events + owing (stops kept.row) ≤ length t.events + owing (state_is is_stopping t.rows kept.row.number)

-- of the rows that of one bundle alone may have changed, and events came
pub record IsStepped (number : ℕ) (before now : BundleTable) : Type 0 where
  pub others : without_number number now.rows ≡ without_number number before.rows
  pub numbered : now.numbered ≡ before.numbered
  pub more : List BundleEvent
  pub events : now.events ≡ before.events ++ more

-- it was kept of this table
pub record IsKeptOf (kept : Kept) (t : BundleTable) : Type 0 where
  pub table : AreNumbered t.numbered t.rows
  pub row : bundle_of t.rows kept.row.number ≡ Some kept.row
  pub events : kept.events ≡ length t.events
  pub room : kept.room ≡ length t.rows

-- a step of the bundle that was kept, which it undoes to be put back
abbrev pub IsUndoneBy : Kept → BundleTable → BundleTable → Type 0
IsUndoneBy kept before now = CanPutBack kept now × IsStepped kept.row.number before now

-- the table as it was saved, with of the events that stand the first, as many as there were
abbrev pub gone_back : SavedBundles → BundleTable → BundleTable
gone_back saved t = record { rows = saved.rows; numbered = saved.numbered; events = take saved.events t.events }

-- the bundle and the event that came last are those of an install
abbrev pub is_install : ℕ → Option BundleLife → Option BundleEvent → Bool
is_install numbered (Some b) (Some e) = b.number == numbered && is_installed b.state && e.bundle == numbered && e.value == 1
is_install numbered _ _ = false

abbrev pub last_of : {X : Type 0} → List X → Option X
last_of xs = slice_get xs (length xs - 1)
