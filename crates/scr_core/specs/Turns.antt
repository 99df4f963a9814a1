-- What taking a turn answers. Our own.
use Rattle.std.specs.Prelude.{◌≡◌, ℕ, ◌+◌, List, Result, Ok, Err}
use Rattle.journal_core.specs.declared.entry.Entry.{Entry}
use Rattle.scr_core.specs.declared.turn.Taken.{Taken}
use Rattle.scr_core.specs.declared.turn.Taken.TheVariants.{Turn as TakenTurn, Idle}
use Rattle.scr_world.specs.Calls.{FindsNoRoom, IsIdle, Takes, world_at}
use Rattle.scr_world.specs.declared.reply.CoreFault.{CoreFault}
use Rattle.scr_world.specs.declared.reply.CoreFault.TheVariants.{JournalFull, OutOfMemory}
use Rattle.scr_world.specs.declared.step.Step.{Step}

-- what taking a turn answers and does; the turn that was taken is the next one by number
abbrev pub TakesTurn : ℕ → List (Entry Step) → Result Taken CoreFault → List (Entry Step) → Type 0
TakesTurn limit old (Ok (TakenTurn turn work)) new = (turn ≡ work.number) × (work.number ≡ (world_at old).turns_begun + 1) × Takes limit old work new
TakesTurn limit old (Ok Idle) new = IsIdle old new
TakesTurn limit old (Err OutOfMemory) new = new ≡ old
TakesTurn limit old (Err JournalFull) new = FindsNoRoom limit old new
TakesTurn limit old (Err fault) new = ⊥
