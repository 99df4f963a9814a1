-- How many turns a settling begins. Our own.
use Rattle.std.specs.Prelude.{◌≡◌, ◌≤◌, ℕ, ◌++◌, map, sum, None}
use Rattle.journal_core.specs.declared.entry.Entry.{Entry}
use Rattle.scr_world.specs.Bounds.{settle_bound}
use Rattle.scr_world.specs.Dues.{due_in}
use Rattle.scr_world.specs.Lists.{world_of}
use Rattle.scr_world.specs.Steps.{History}
use Rattle.scr_world.specs.Stepping.{begins_by}
use Rattle.scr_world.specs.declared.step.Step.{Step}

-- how many turns these entries begin
abbrev pub turns_begun_in : History → ℕ
turns_begun_in entries = sum (map (λ (entry : Entry Step). begins_by entry.step) entries)

-- they begin at most as many as the settle bound of the journal before them
abbrev pub IsWithinBound : History → History → Type 0
IsWithinBound past entries = turns_begun_in entries ≤ settle_bound (world_of past)

-- and where they begin just as many, nothing is due behind them
abbrev pub IsIdleAtBound : History → History → Type 0
IsIdleAtBound past entries = turns_begun_in entries ≡ settle_bound (world_of past) → due_in (world_of (entries ++ past)) ≡ None
