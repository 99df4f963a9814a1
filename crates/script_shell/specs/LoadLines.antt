-- The steps of a load: a line, all lines, the text of the counts. Our own form.
use Rattle.std.specs.Prelude.{◌≡◌, ◌<◌, ◌+◌, ℕ, List, ◌++◌, length, take, Bool, true, false, Option, Some, None, Result, Ok, Err, ◌⊎◌, option_map}
use Rattle.std.specs.Io.KnownBytes.{Appends}
use Rattle.platform_hall.specs.Cores.{CoreView}
use Rattle.scr_world.specs.declared.command.Command.{Command}
use Rattle.shell_lang.specs.declared.shell_reply.ShellReply.{ShellReply}
use Rattle.shell_lang.specs.ShellLines.{shell_line}
use Rattle.turn_runner.specs.declared.settle_fault.SettleFault.TheVariants.{Unsettled as StillDue, JournalFull as NoRoom, OutOfMemory}
use Rattle.script_shell.specs.declared.load_answers.Answered.{Answered}
use Rattle.script_shell.specs.declared.status.Status.{Status}
use Rattle.script_shell.specs.declared.status.Status.TheVariants.{Done, WriteFault, NoMemory, JournalFull, Unsettled}
use Rattle.script_shell.specs.Asks.{Setting}
use Rattle.script_shell.specs.Carries.{RunsAsked}
use Rattle.script_shell.specs.LineTexts.{Answer, is_refusal}
use Rattle.script_shell.specs.Loads.{CutsLoad, answered_by, text_of_counts}
use Rattle.script_shell.specs.Runs.{Ran}

-- one line more, and whether its reply is a refusal, where it has one
abbrev pub with_answer : Answered → Option Bool → Answered
with_answer answered None = record answered { lines = answered.lines + 1 }
with_answer answered (Some true) = record answered { lines = answered.lines + 1; refused = answered.refused + 1 }
with_answer answered (Some false) = record answered { lines = answered.lines + 1; accepted = answered.accepted + 1 }

-- a line runs as one of a script, and it is told whether its reply is a refusal; or it is cut off
abbrev pub RunsLoadLine : Setting → List ℕ → CoreView → Result (Option Bool) Status → CoreView → Type 0
RunsLoadLine s line before (Ok refused) after = (told : Option ShellReply) × RunsAsked s (shell_line line) before (Ok told) after × (refused ≡ option_map is_refusal told)
RunsLoadLine s line before (Err NoMemory) after = (after ≡ before) ⊎ RunsAsked s (shell_line line) before (Err OutOfMemory) after
RunsLoadLine s line before (Err JournalFull) after = RunsAsked s (shell_line line) before (Err NoRoom) after
RunsLoadLine s line before (Err Unsettled) after = RunsAsked s (shell_line line) before (Err StillDue) after
RunsLoadLine s line before (Err _) after = ⊥

-- all lines run, or the run is cut off behind some
abbrev pub RunsLines : Setting → List (List ℕ) → CoreView → Result Answered Status → CoreView → Type 0
RunsLines s lines before (Ok answered) after = (commands : List Command) × (answers : List Answer) × Ran s before lines before after commands answers × (answered ≡ answered_by answers)
RunsLines s all before (Err status) after =
    (lines : List (List ℕ)) × (others : List (List ℕ)) × (between : CoreView) × (commands : List Command) × (later : List Command) × (answers : List Answer)
    × (all ≡ lines ++ others) × Ran s before lines before between commands answers × CutsLoad s status between after others later

-- the counts are written whole, or a front of them where the sink fails; want of memory writes nothing
abbrev pub TellsCounts : Answered → CoreView → Option (List ℕ) → Option (List ℕ) → Status → Type 0
TellsCounts answered p written written' Done = Appends written written' (text_of_counts answered p)
TellsCounts answered p written written' WriteFault = (count : ℕ) × (count < length (text_of_counts answered p)) × Appends written written' (take count (text_of_counts answered p))
TellsCounts answered p written written' NoMemory = written' ≡ written
TellsCounts answered p written written' _ = ⊥
