-- How a run ends. Our own form.
use Rattle.std.specs.Prelude.{◌≡◌, ℕ, Result, Err}
use Rattle.fault_count.specs.Steps.{next_count}
use Rattle.turn_runner.specs.declared.settle_fault.SettleFault.{SettleFault}
use Rattle.turn_runner.specs.declared.settle_fault.SettleFault.TheVariants.{Unsettled as StillDue, JournalFull as NoRoom, OutOfMemory}
use Rattle.script_shell.specs.declared.form.Form.{Form}
use Rattle.script_shell.specs.declared.status.Status.{Status}
use Rattle.script_shell.specs.declared.status.Status.TheVariants.{Done, Usage, ReadFault, WriteFault, NoMemory, JournalFull, LineTooLong, Unsettled, Refused}

-- the number of a status, with which the program ends
abbrev pub code_of : Status → ℕ
code_of Done = 0
code_of (Usage at) = 1
code_of ReadFault = 2
code_of WriteFault = 3
code_of NoMemory = 4
code_of JournalFull = 5
code_of (LineTooLong line) = 6
code_of Unsettled = 7
code_of (Refused line) = 10

-- the statuses of a run that came to an end of its script
abbrev pub IsEnding : Status → Type 0
IsEnding Done = Unit {0}
IsEnding (LineTooLong line) = Unit {0}
IsEnding _ = ⊥

-- the cause of a status: words that are no form, a source that failed, a sink that failed; the others' stands with what ran
abbrev pub HasCause : Status → Result Form ℕ → Type 0 → Type 0 → Type 0
HasCause (Usage at) form read_failed write_failed = form ≡ Err at
HasCause ReadFault form read_failed write_failed = read_failed
HasCause WriteFault form read_failed write_failed = write_failed
HasCause _ form read_failed write_failed = Unit {0}

-- the count of the source's faults after a run: it fails once, at the read that ends the run, or never
abbrev pub read_faults_after : ℕ → Status → ℕ
read_faults_after count ReadFault = next_count count
read_faults_after count _ = count

-- the same for the sink
abbrev pub write_faults_after : ℕ → Status → ℕ
write_faults_after count WriteFault = next_count count
write_faults_after count _ = count

-- how a run ends whose line is cut off
abbrev pub status_of : SettleFault → Status
status_of StillDue = Unsettled
status_of NoRoom = JournalFull
status_of OutOfMemory = NoMemory
