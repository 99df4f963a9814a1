-- What a look at the core does, for a pass. Our own.
use Rattle.std.specs.Prelude.{◌≡◌, ℕ, List, [], length}
use Rattle.hall_goings.specs.Went.{Went}
use Rattle.hall_locked.specs.Owned.{entries_in}
use Rattle.journal_core.specs.declared.entry.Entry.{Entry}
use Rattle.platform_sessions.specs.Halls.{View}
use Rattle.scr_world.specs.declared.command.Limits.{Limits}
use Rattle.scr_world.specs.declared.step.Step.{Step}

-- the pass looked at the core once, with all that it has seen then, appended nothing, and learned what the look says of that
pub record Reads {L : Type 0} (looks : L → List (Entry Step) → Limits → L → Type 0) (limits : Limits) (before after : View) (look : L) (front : ℕ) (looked : L) : Type 0 where
  pub went : Went before after []
  pub front_is : front ≡ length after.seen
  pub learned : looks look (entries_in after.seen) limits looked
