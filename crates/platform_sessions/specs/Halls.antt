-- A hall and its passes, as contracts see them, and what a pass has seen. Our own.
use Rattle.std.specs.Prelude.{◌≡◌, ℕ, List, [], Bool, Option, Some, None}
use Rattle.atomic_table.specs.Seated.{TableId}
use Rattle.front_lock.specs.Passes.{PassView}
use Rattle.hall_goings.specs.Went.{up_to}
use Rattle.hall_locked.specs.Locks.{limits_code}
use Rattle.hall_locked.specs.Owned.{entries_in}
use Rattle.journal_core.specs.declared.entry.Entry.{Entry}
use Rattle.hall_locked.specs.Cores.{CoreView}
use Rattle.scr_world.specs.declared.command.Limits.{Limits}
use Rattle.scr_world.specs.declared.step.Step.{Step}

-- what a pass of the lock knows, over the entries of a journal
abbrev pub View : Type 0
View = PassView (Entry Step)

-- entries with their places
abbrev pub Own : Type 0
Own = List (ℕ × Entry Step)

-- a hall: the name of its lock, and its limits
pub record HallView : Type 0 where
  pub lock : TableId
  pub limits : Limits

-- a pass of a hall: what its pass of the lock knows, and whether it closed the hall or was told that somebody did
pub record HallPassView : Type 0 where
  pub front : View
  pub closed : Bool

-- what a caller owes: the pass is one of this hall
pub record IsOf (hall : HallView) (pass : HallPassView) : Type 0 where
  pub lock : pass.front.lock ≡ hall.lock
  pub limits : pass.front.tie ≡ limits_code hall.limits

-- a pass has its number, and as many passes can be split from it
abbrev pub KeepsSeat : View → View → Type 0
KeepsSeat before after = (after.number ≡ before.number) × (after.spare ≡ before.spare)

-- and the same is kept for it: so the turns that it has under way are its own still
abbrev pub KeepsPass : View → View → Type 0
KeepsPass before after = KeepsSeat before after × (after.kept ≡ before.kept)

-- the pass that a new hall gives
abbrev pub first_pass : HallView → View
first_pass hall = record { lock = hall.lock; number = 0; joined = []; seen = []; kept = []; spare = 63; entered = 0; tie = limits_code hall.limits }

-- ---- what a pass has seen

-- the core as the journal up to a front has it
abbrev pub core_up_to : Limits → View → ℕ → CoreView
core_up_to limits pass front = record { limits = limits; journal = entries_in (up_to front pass) }

-- as all has it that the pass has seen
abbrev pub core_seen : Limits → View → CoreView
core_seen limits pass = record { limits = limits; journal = entries_in pass.seen }

-- ---- a pass that is away from the lock

abbrev pub no_table : TableId
no_table = record { words = 0; slots = 0; views_name = 0; atom = 0; block = 0; offset = 0; slot_names = [] }

abbrev pub no_front : View
no_front = record { lock = no_table; number = 0; joined = []; seen = []; kept = []; spare = 0; entered = 0; tie = [] }

abbrev pub front_in : Option View → View
front_in (Some front) = front
front_in None = no_front
