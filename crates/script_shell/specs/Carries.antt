-- What the steps of a line answer and do. Our own form.
use Rattle.std.specs.Prelude.{◌≡◌, ℕ, List, Option, Result, Ok, Err, true, false, Bool}
use Rattle.kind_trait.specs.Meanings.{Told}
use Rattle.prop_map.specs.declared.properties.Property.{Property}
use Rattle.scr_world.specs.declared.command.Command.{Command}
use Rattle.scr_world.specs.declared.reply.CoreFault.{CoreFault}
use Rattle.scr_world.specs.declared.reply.CoreFault.TheVariants.{JournalFull as InCore, OutOfMemory as NoMemory}
use Rattle.platform_hall.specs.Cores.{CoreView}
use Rattle.turn_runner.specs.declared.settle_fault.SettleFault.{SettleFault}
use Rattle.turn_runner.specs.declared.settle_fault.SettleFault.TheVariants.{Unsettled, JournalFull, OutOfMemory}
use Rattle.shell_lang.specs.declared.shell_reply.Refusal.TheVariants.{Core as OfCore}
use Rattle.shell_lang.specs.declared.shell_reply.ShellReply.{ShellReply}
use Rattle.shell_lang.specs.declared.shell_reply.ShellReply.TheVariants.{Refused}
use Rattle.shell_lang.specs.ShellLines.{Asked, is_quit, shell_line}
use Rattle.script_shell.specs.declared.line_ask.AskStep.{AskStep}
use Rattle.script_shell.specs.declared.line_ask.AskStep.TheVariants.{Asked as IsAsked, Quit as ToQuit, NoMemory as NoMemoryLeft}
use Rattle.script_shell.specs.Asks.{Asks, AsksBegin, AsksCommand, AsksFinish, AsksHeld, Manually, Setting}
use Rattle.script_shell.specs.Cuts.{Cuts, CutsAsked, CutsBegin, CutsCommand, CutsFinish, CutsSettle}
use Rattle.script_shell.specs.Refusals.{is_told}
use Rattle.script_shell.specs.Rests.{IsAtRest, Rests}

-- what a line asks
abbrev pub CarriesOut : Setting → Asked → CoreView → Result (Option ShellReply) SettleFault → CoreView → Type 0
CarriesOut s asked before (Ok told) after = Asks s asked before told after
CarriesOut s asked before (Err fault) after = (commands : List Command) × CutsAsked s asked fault before after commands

abbrev pub CarriesCommand : Command → CoreView → Result ShellReply SettleFault → CoreView → Type 0
CarriesCommand command before (Ok reply) after = AsksCommand command before reply after
CarriesCommand command before (Err fault) after = (commands : List Command) × CutsCommand command fault before after commands

-- a full journal and want of memory aren't told
abbrev pub TellsRefusal : CoreFault → Result ShellReply SettleFault → Type 0
TellsRefusal fault (Ok reply) = (is_told fault ≡ true) × (reply ≡ Refused (OfCore fault))
TellsRefusal fault (Err JournalFull) = fault ≡ InCore
TellsRefusal fault (Err OutOfMemory) = fault ≡ NoMemory
TellsRefusal fault (Err Unsettled) = ⊥

-- what the platform tells by its journal alone
abbrev pub CarriesReading : ShellReply → Result ShellReply SettleFault → Type 0
CarriesReading reply (Ok told) = told ≡ reply
CarriesReading reply (Err fault) = fault ≡ OutOfMemory

abbrev pub CarriesHeld : ℕ → CoreView → Result ShellReply SettleFault → Type 0
CarriesHeld configuration before (Ok reply) = AsksHeld configuration before reply before
CarriesHeld configuration before (Err fault) = fault ≡ OutOfMemory

abbrev pub CarriesBegin : Bool → CoreView → Result ShellReply SettleFault → CoreView → Type 0
CarriesBegin manual before (Ok reply) after = Manually manual AsksBegin before reply after
CarriesBegin manual before (Err fault) after = (manual ≡ true) × CutsBegin fault before after

abbrev pub CarriesFinish : Bool → (List ℕ → List Property → Told → Bool) → ℕ → CoreView → Result ShellReply SettleFault → CoreView → Type 0
CarriesFinish manual refuses turn before (Ok reply) after = Manually manual (AsksFinish refuses turn) before reply after
CarriesFinish manual refuses turn before (Err fault) after = (manual ≡ true) × CutsFinish refuses turn fault before after

-- the turns that are due run, but in `script --manual`, and the platform is at rest; or their settling is cut off
abbrev pub RestsOr : Setting → CoreView → Result (Unit {0}) SettleFault → CoreView → Type 0
RestsOr s between (Ok _) after = Rests s between after × IsAtRest s between after
RestsOr s between (Err fault) after = (s.is_manual ≡ false) × CutsSettle s.refuses fault between after

-- what a line answers and does
abbrev pub RunsAsked : Setting → Asked → CoreView → Result (Option ShellReply) SettleFault → CoreView → Type 0
RunsAsked s asked before (Ok told) after = (between : CoreView) × Asks s asked before told between × Rests s between after × IsAtRest s before after
RunsAsked s asked before (Err fault) after = (commands : List Command) × Cuts s asked fault before after commands

-- what a line asks; want of memory is free
abbrev pub ReadsAsk : List ℕ → AskStep → Type 0
ReadsAsk line (IsAsked asked) = (shell_line line ≡ asked) × (is_quit asked ≡ false)
ReadsAsk line ToQuit = is_quit (shell_line line) ≡ true
ReadsAsk line NoMemoryLeft = Unit {0}
