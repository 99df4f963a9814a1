-- A line that is run, and its text written. Our own form.
use Rattle.std.specs.Prelude.{◌≡◌, ◌<◌, ◌⊎◌, ℕ, List, Bool, Option, Result, Ok, Err, length, take, true}
use Rattle.std.specs.Io.KnownBytes.{Appends}
use Rattle.platform_hall.specs.Cores.{CoreView}
use Rattle.shell_lang.specs.declared.shell_reply.ShellReply.{ShellReply}
use Rattle.shell_lang.specs.ShellLines.{Asked}
use Rattle.turn_runner.specs.declared.settle_fault.SettleFault.TheVariants.{Unsettled as StillDue, JournalFull as NoRoom, OutOfMemory}
use Rattle.script_shell.specs.declared.status.Status.{Status}
use Rattle.script_shell.specs.declared.status.Status.TheVariants.{WriteFault, NoMemory, JournalFull, Unsettled}
use Rattle.script_shell.specs.Asks.{Setting}
use Rattle.script_shell.specs.Carries.{RunsAsked}
use Rattle.script_shell.specs.LineTexts.{answer_text, has_text}
use Rattle.script_shell.specs.Statuses.{write_faults_after}

-- memory is wanting in what a line asks, or for its text
abbrev pub WantsMemory : Setting → Bool → List ℕ → Asked → CoreView → CoreView → Type 0
WantsMemory s echo line asked before after =
    RunsAsked s asked before (Err OutOfMemory) after ⊎ ((told : Option ShellReply) × RunsAsked s asked before (Ok told) after × (has_text echo (record { line = line; told = told }) ≡ true))

-- a line is run and its text written whole, and this is its reply; or the run ends so: a front of the text is written, or nothing of it
abbrev pub AnswersLine : Setting → Bool → List ℕ → Asked → Result (Option ShellReply) Status → CoreView → CoreView → Option (List ℕ) → Option (List ℕ) → Type 0
AnswersLine s echo line asked (Ok told) before after written written' = RunsAsked s asked before (Ok told) after × Appends written written' (answer_text echo (record { line = line; told = told }))
AnswersLine s echo line asked (Err WriteFault) before after written written' =
    (told : Option ShellReply) × (count : ℕ) × RunsAsked s asked before (Ok told) after × (count < length (answer_text echo (record { line = line; told = told })))
    × Appends written written' (take count (answer_text echo (record { line = line; told = told })))
AnswersLine s echo line asked (Err NoMemory) before after written written' = WantsMemory s echo line asked before after × (written' ≡ written)
AnswersLine s echo line asked (Err JournalFull) before after written written' = RunsAsked s asked before (Err NoRoom) after × (written' ≡ written)
AnswersLine s echo line asked (Err Unsettled) before after written written' = RunsAsked s asked before (Err StillDue) after × (written' ≡ written)
AnswersLine s echo line asked (Err _) before after written written' = ⊥

-- the sink's count of faults behind a line
abbrev pub faults_after_answer : ℕ → Result (Option ShellReply) Status → ℕ
faults_after_answer count (Ok told) = count
faults_after_answer count (Err status) = write_faults_after count status
