-- What a command does in a hall, for a pass: what it had seen before, and what it has seen afterwards. Our own.
use Rattle.std.specs.Prelude.{◌≡◌, ℕ, ◌+◌, ◌≤◌, ◌⊎◌, [], ◌∷◌, length, true, false, is_some, Option, Some, None, Result, Ok, Err}
use Rattle.hall_goings.specs.Went.{Went}
use Rattle.hall_locked.specs.declared.owed.Owed.{Owed}
use Rattle.journal_core.specs.declared.entry.Entry.{Entry}
use Rattle.hall_locked.specs.Platforms.{has_drain, world}
use Rattle.platform_sessions.specs.Halls.{Own, View, core_seen, core_up_to}
use Rattle.scr_world.specs.Replies.{MayLackMemory, Replies, changes}
use Rattle.scr_world.specs.declared.command.Command.{Command}
use Rattle.scr_world.specs.declared.command.Limits.{Limits}
use Rattle.scr_world.specs.declared.reply.Accepted.{Accepted}
use Rattle.scr_world.specs.declared.reply.CoreFault.{CoreFault}
use Rattle.scr_world.specs.declared.reply.CoreFault.TheVariants.{OutOfMemory}
use Rattle.scr_world.specs.declared.reply.Reply.{Reply}
use Rattle.scr_world.specs.declared.step.Step.{Step}
use Rattle.scr_world.specs.declared.step.Step.TheVariants.{Command as Commanded, Drained}

-- ---- drains

abbrev pub IsDrain : Step → Type 0
IsDrain (Drained instance) = Unit {0}
IsDrain _ = ⊥

abbrev pub AreDrains : Own → Type 0
AreDrains [] = Unit {0}
AreDrains (x ∷ xs) = IsDrain x.1.step × AreDrains xs

-- nothing became the pass's own but drains
abbrev pub Posts : View → View → Type 0
Posts before after = (own : Own) × Went before after own × AreDrains own

-- nothing awaits its drain in all that the pass has seen
abbrev pub IsPosted : Limits → View → Type 0
IsPosted limits pass = has_drain (core_seen limits pass) ≡ false

-- what is owed in all that the pass has seen: something exactly where a drain is awaited
abbrev pub IsOwed : Limits → View → Option Owed → Type 0
IsOwed limits pass owed = is_some owed ≡ has_drain (core_seen limits pass)

-- all are posted where something is owed, and nothing happens where nothing is
abbrev pub PostsOwed : Limits → Option Owed → View → View → Type 0
PostsOwed limits (Some owed) before after = Posts before after × IsPosted limits after
PostsOwed limits None before after = after ≡ before

-- ---- commands

-- the command is one entry just before the front, behind all that the pass had seen; behind it the pass posted drains alone; it
-- changes something in what stands before it, and its reply is by that
pub record Appended (limits : Limits) (before after : View) (command : Command) (front : ℕ) (reply : Reply) : Type 0 where
  pub place : ℕ
  pub entry : Entry Step
  pub drains : Own
  pub front_is : front ≡ place + 1
  pub behind : length before.seen ≤ place
  pub within : front ≤ length after.seen
  pub step : entry.step ≡ Commanded command
  pub went : Went before after ((place, entry) ∷ drains)
  pub drained : AreDrains drains
  pub changes_it : changes limits.journal (world (core_up_to limits after place)) command ≡ true
  pub told : Replies limits.journal (world (core_up_to limits after place)) command (Ok reply)

-- the pass looked and appended nothing; the command changes nothing in what it has seen then, and the answer is by that
pub record Unchanged (limits : Limits) (before after : View) (command : Command) (front : ℕ) (answer : Result Reply CoreFault) : Type 0 where
  pub went : Went before after []
  pub front_is : front ≡ length after.seen
  pub still : changes limits.journal (world (core_seen limits after)) command ≡ false
  pub told : Replies limits.journal (world (core_seen limits after)) command answer

-- what a refusal leaves, by all that the pass has seen then: it has looked at most. Want of memory hides no refusal but those that take memory
abbrev pub Refused : Limits → View → View → Command → CoreFault → Type 0
Refused limits before after command OutOfMemory = Went before after [] × MayLackMemory limits.journal (world (core_seen limits after)) command
Refused limits before after command fault = Unchanged limits before after command (length after.seen) (Err fault)

-- what a command answers and does: behind one that was appended each drain that was awaited is posted
abbrev pub TakesCommand : Limits → View → View → Command → Result (ℕ × Reply) CoreFault → Type 0
TakesCommand limits before after command (Ok r) = (Appended limits before after command r.0 r.1 × IsPosted limits after) ⊎ Unchanged limits before after command r.0 (Ok r.1)
TakesCommand limits before after command (Err fault) = Refused limits before after command fault

-- the same of one turn at the lock, in which the core answered so, and what is owed then: a command that changes nothing leaves nothing to be posted
abbrev pub TookCommand : Limits → View → View → Command → Result (Accepted × Option Owed) CoreFault → ℕ → Type 0
TookCommand limits before after command (Ok a) front =
    (Appended limits before after command front a.0.reply × IsOwed limits after a.1) ⊎ (Unchanged limits before after command front (Ok a.0.reply) × (a.1 ≡ None))
TookCommand limits before after command (Err fault) front = Refused limits before after command fault
