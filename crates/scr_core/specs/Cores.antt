-- What contracts see of a core.
use Rattle.std.specs.Prelude.{◌≤◌, List}
use Rattle.journal_core.specs.declared.entry.Entry.{Entry}
use Rattle.scr_world.specs.declared.command.Limits.{Limits}
use Rattle.scr_world.specs.declared.step.Step.{Step}

-- its limits, and the entries of its journal, the oldest first
pub record CoreView : Type 0 where
  pub limits : Limits
  pub journal : List (Entry Step)

-- limits within the greatest ones
pub record AreWithinGreatest (limits : Limits) : Type 0 where
  pub journal : limits.journal ≤ 4194304
  pub turns : limits.turns ≤ 1000000
