-- Lines that are cut off: want of room, want of memory, or turns that are still due end the run. Our own form.
use Rattle.std.specs.Prelude.{◌≡◌, ℕ, List, [], ◌∷◌, Bool, true, false, Option, Some, Ok, Err, ◌⊎◌}
use Rattle.callback_orders.specs.declared.callback.Outcome.TheVariants.{NoMemory}
use Rattle.kind_trait.specs.Meanings.{Told}
use Rattle.prop_map.specs.declared.properties.Property.{Property}
use Rattle.scr_world.specs.Replies.{MayLackMemory}
use Rattle.scr_world.specs.declared.command.Command.{Command}
use Rattle.scr_world.specs.declared.reply.CoreFault.TheVariants.{JournalFull as InCore}
use Rattle.scr_world.specs.declared.reply.Reply.{Reply}
use Rattle.platform_hall.specs.Cores.{CoreView}
use Rattle.turn_runner.specs.declared.settle_fault.SettleFault.{SettleFault}
use Rattle.turn_runner.specs.declared.settle_fault.SettleFault.TheVariants.{Unsettled, JournalFull, OutOfMemory}
use Rattle.platform_hall.specs.declared.finish_fault.FinishFault.TheVariants.{OutOfMemory as NoMemoryLeft}
use Rattle.platform_hall.specs.Platforms.{Accepts, BeginsTurn, FinishesTurn, TakesCommand, world}
use Rattle.platform_hall.specs.SettleBounds.{SettlesWithin}
use Rattle.shell_lang.specs.declared.shell_line.ShellLine.TheVariants.{Command as Commanded, Settle, Begin, Finish, Call}
use Rattle.shell_lang.specs.declared.shell_reply.ShellReply.{ShellReply}
use Rattle.shell_lang.specs.ShellLines.{Asked, shell_line}
use Rattle.script_shell.specs.Asks.{Asks, Setting, changed, commands_of}
use Rattle.script_shell.specs.Calling.{CutsCall}

-- nothing happens
abbrev pub Stays : CoreView → CoreView → List Command → Type 0
Stays before after commands = (after ≡ before) × (commands ≡ [])

-- A command finds no room, which leaves all as it was. Want of memory leaves all as it was, and then hides no refusal but those that
-- take memory, or it leaves the command's entry and some drains.
abbrev pub CutsCommand : Command → SettleFault → CoreView → CoreView → List Command → Type 0
CutsCommand command Unsettled before after commands = ⊥
CutsCommand command JournalFull before after commands = TakesCommand before command (Err InCore) after × (commands ≡ [])
CutsCommand command OutOfMemory before after commands =
    (MayLackMemory before.limits.journal (world before) command × Stays before after commands) ⊎ ((reply : Reply) × Accepts before command reply after × (commands ≡ changed before command))

-- the turns of a settling are cut off; on a calm platform where no creation or activation fails, a limit of turns below its bound alone leaves turns due
abbrev pub CutsSettle : (List ℕ → List Property → Told → Bool) → SettleFault → CoreView → CoreView → Type 0
CutsSettle refuses fault before after = SettlesWithin refuses before (Err fault) after

-- the turn that begins finds no room; want of memory leaves all as it was, or with its beginning
abbrev pub CutsBegin : SettleFault → CoreView → CoreView → Type 0
CutsBegin Unsettled before after = ⊥
CutsBegin JournalFull before after = BeginsTurn before (Err InCore) after
CutsBegin OutOfMemory before after = (after ≡ before) ⊎ ((turn : ℕ) × BeginsTurn before (Ok (Some turn)) after)

-- memory is wanting for the end of a turn, or in its component code
abbrev pub CutsFinish : (List ℕ → List Property → Told → Bool) → ℕ → SettleFault → CoreView → CoreView → Type 0
CutsFinish refuses turn Unsettled before after = ⊥
CutsFinish refuses turn JournalFull before after = ⊥
CutsFinish refuses turn OutOfMemory before after = FinishesTurn refuses before turn (Err NoMemoryLeft) after ⊎ FinishesTurn refuses before turn (Ok NoMemory) after

-- what a line asks is cut off, and this command changed something; a line that only looks is cut off by want of memory alone
abbrev pub CutsAsked : Setting → Asked → SettleFault → CoreView → CoreView → List Command → Type 0
CutsAsked s (Ok (Commanded command)) fault before after commands = CutsCommand command fault before after commands
CutsAsked s (Ok Settle) fault before after commands = CutsSettle s.refuses fault before after × (commands ≡ [])
CutsAsked s (Ok Begin) fault before after commands = (s.is_manual ≡ true) × CutsBegin fault before after × (commands ≡ [])
CutsAsked s (Ok (Finish turn)) fault before after commands = (s.is_manual ≡ true) × CutsFinish s.refuses turn fault before after × (commands ≡ [])
CutsAsked s (Ok (Call bundle service request)) fault before after commands = CutsCall s.refuses s.next bundle service request fault before after × (commands ≡ [])
CutsAsked s _ fault before after commands = (fault ≡ OutOfMemory) × Stays before after commands

-- what a line asks is carried out, and the settling behind it is cut off
abbrev pub CutsRest : Setting → Asked → SettleFault → CoreView → CoreView → List Command → Type 0
CutsRest s asked fault before after commands =
    (s.is_manual ≡ false) × ((between : CoreView) × (told : Option ShellReply) × Asks s asked before told between × CutsSettle s.refuses fault between after)
    × (commands ≡ commands_of before asked)

-- a line is cut off with a fault
abbrev pub Cuts : Setting → Asked → SettleFault → CoreView → CoreView → List Command → Type 0
Cuts s asked fault before after commands = CutsAsked s asked fault before after commands ⊎ CutsRest s asked fault before after commands

-- the first of these lines is cut off
abbrev pub CutsFirst : Setting → List (List ℕ) → SettleFault → CoreView → CoreView → List Command → Type 0
CutsFirst s [] fault before after commands = ⊥
CutsFirst s (line ∷ lines) fault before after commands = Cuts s (shell_line line) fault before after commands
