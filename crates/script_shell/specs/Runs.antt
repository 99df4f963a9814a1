-- A run over the lines of an input: what becomes of the platform, and the text that it makes. Our own form.
use Rattle.std.specs.Prelude.{◌≡◌, ◌<◌, ◌≤◌, ℕ, List, [], ◌∷◌, ◌++◌, flat_map, length, take, ◌||◌, Bool, true, false, not, Option, ◌⊎◌, if◌then◌else◌}
use Rattle.std.specs.List.{list_all}
use Rattle.std.specs.Io.KnownBytes.{Appends, Consumes}
use Rattle.fault_count.specs.Steps.{next_count}
use Rattle.journal_core.specs.declared.entry.Entry.{Entry}
use Rattle.scr_world.specs.declared.command.Command.{Command}
use Rattle.scr_world.specs.declared.step.Step.{Step}
use Rattle.scr_world.specs.declared.step.Step.TheVariants.{Command as Stepped}
use Rattle.platform_hall.specs.Cores.{CoreView}
use Rattle.scr_world.specs.Legal.{IsLegal}
use Rattle.scr_world.specs.Steps.{history_of}
use Rattle.turn_runner.specs.declared.settle_fault.SettleFault.{SettleFault}
use Rattle.turn_runner.specs.declared.settle_fault.SettleFault.TheVariants.{Unsettled as StillDue, JournalFull as NoRoom, OutOfMemory}
use Rattle.shell_lang.specs.declared.shell_reply.ShellReply.{ShellReply}
use Rattle.shell_lang.specs.ShellLines.{Asked, shell_line, is_quit}
use Rattle.script_shell.specs.declared.form.ScriptOptions.{ScriptOptions}
use Rattle.script_shell.specs.declared.status.Status.{Status}
use Rattle.script_shell.specs.declared.status.Status.TheVariants.{Done, ReadFault, Usage, WriteFault, NoMemory, JournalFull, LineTooLong, Unsettled, Refused}
use Rattle.script_shell.specs.Asks.{Asks, Setting, commands_of}
use Rattle.script_shell.specs.Cuts.{CutsFirst, Stays}
use Rattle.script_shell.specs.LineTexts.{Answer, IsRefusedLast, answer_text, has_refusal, has_text, texts}
use Rattle.script_shell.specs.Lines.{Line, is_too_long, lines_of, longest_line}
use Rattle.script_shell.specs.Reading.{NoLineFeed, Tells}
use Rattle.script_shell.specs.Rests.{IsAtRest, Rests}
use Rattle.script_shell.specs.Statuses.{IsEnding}

-- the texts of the lines before the first that is `quit` or too long
abbrev pub script_lines : List Line → List (List ℕ)
script_lines [] = []
script_lines (line ∷ lines) = if is_too_long line || is_quit (shell_line line.text) then [] else line.text ∷ script_lines lines

-- how the run of these lines ends, of which the first has this number: at a line that is too long, at `quit`, or behind the last
abbrev pub ending : ℕ → List Line → Status
ending number [] = Done
ending number (line ∷ lines) = if is_too_long line then LineTooLong number else (if is_quit (shell_line line.text) then Done else ending (next_count number) lines)

-- no line is too long
abbrev pub are_short : List Line → Bool
are_short lines = list_all (λ line. not (is_too_long line)) lines

-- a line is carried out, the turns that are due run behind it, and the platform is at rest: then its reply is told
abbrev pub RunsLine : Setting → CoreView → Asked → CoreView → Option ShellReply → CoreView → Type 0
RunsLine s first asked before told after = (between : CoreView) × Asks s asked before told between × Rests s between after × IsAtRest s first after

-- these lines, one after the other, make of the one platform the other, by these commands, with these answers; the run began with the first platform
abbrev pub Ran : Setting → CoreView → List (List ℕ) → CoreView → CoreView → List Command → List Answer → Type 0
Ran s first [] before after commands answers = (after ≡ before) × (commands ≡ []) × (answers ≡ [])
Ran s first (line ∷ lines) before after commands answers =
    (between : CoreView) × (told : Option ShellReply) × (later : List Command) × (rest : List Answer)
    × RunsLine s first (shell_line line) before told between × Ran s first lines between after later rest
    × (commands ≡ commands_of before (shell_line line) ++ later) × (answers ≡ record { line = line; told = told } ∷ rest)

-- the first of these lines is run, and this is it with its reply
abbrev pub RunsFirst : Setting → CoreView → List (List ℕ) → CoreView → Answer → CoreView → List Command → Type 0
RunsFirst s first [] before answer after commands = ⊥
RunsFirst s first (line ∷ lines) before answer after commands = RunsLine s first (shell_line line) before answer.told after × (answer.line ≡ line) × (commands ≡ commands_of before (shell_line line))

-- the first of these lines is run, but only a front of its text is written
abbrev pub WritesFront : Setting → ScriptOptions → CoreView → List (List ℕ) → CoreView → CoreView → List Command → List ℕ → Type 0
WritesFront s options first lines before after commands front =
    (answer : Answer) × (count : ℕ) × RunsFirst s first lines before answer after commands × (count < length (answer_text options.echo answer)) × (front ≡ take count (answer_text options.echo answer))

-- memory is wanting for a line or its words, within what it asks, or for its text, where it has one
abbrev pub LacksMemory : Setting → ScriptOptions → CoreView → List (List ℕ) → CoreView → CoreView → List Command → Type 0
LacksMemory s options first lines before after commands =
    Stays before after commands ⊎ (CutsFirst s lines OutOfMemory before after commands ⊎ ((answer : Answer) × RunsFirst s first lines before answer after commands × (has_text options.echo answer ≡ true)))

-- How a run ends behind the lines whose texts are written, by its status: at an end and behind a line that is refused nothing more happened, else something
-- became of the first of the other lines, by these commands, and this front of its text is written.
abbrev pub Stops : Setting → ScriptOptions → CoreView → Status → CoreView → CoreView → List (List ℕ) → List Command → List ℕ → Type 0
Stops s options first (Usage at) before after others commands front = ⊥
Stops s options first WriteFault before after others commands front = WritesFront s options first others before after commands front
Stops s options first NoMemory before after others commands front = LacksMemory s options first others before after commands × (front ≡ [])
Stops s options first JournalFull before after others commands front = CutsFirst s others NoRoom before after commands × (front ≡ [])
Stops s options first Unsettled before after others commands front = CutsFirst s others StillDue before after commands × (front ≡ [])
Stops s options first _ before after others commands front = Stays before after commands × (front ≡ [])

-- with `--strict` a run ends behind the first line that is refused, with its number; where it ends otherwise no line was refused
abbrev pub EndsRefused : Bool → List Answer → Status → Type 0
EndsRefused strict answers (Refused line) = (strict ≡ true) × IsRefusedLast line answers
EndsRefused strict answers _ = strict ≡ true → has_refusal answers ≡ false

abbrev pub command_in : Step → List Command
command_in (Stepped command) = command ∷ []
command_in _ = []

-- the commands of entries, the others of which are beginnings and ends of turns, drains, gets by token and releases
abbrev pub commands_in : List (Entry Step) → List Command
commands_in entries = flat_map (λ (e : Entry Step). command_in e.step) entries

-- the journal grew by entries with these commands, in order, and stays legal
pub record Grew (before after : CoreView) (commands : List Command) : Type 0 where
  pub entries : List (Entry Step)
  pub grown : after.journal ≡ before.journal ++ entries
  pub told : commands_in entries ≡ commands
  pub limits : after.limits ≡ before.limits
  pub legal : IsLegal before.limits.journal (history_of before.journal) → IsLegal after.limits.journal (history_of after.journal)

-- What a run did with an input: it ran the first lines, in order and each once, and wrote the text of each before it ran the next line.
pub record HasRun (s : Setting) (options : ScriptOptions) (bytes : List ℕ) (before after : CoreView) (written_before written_after : Option (List ℕ)) (status : Status) : Type 0 where
  pub lines : List (List ℕ)
  pub others : List (List ℕ)
  pub between : CoreView
  pub commands : List Command
  pub later : List Command
  pub answers : List Answer
  pub front : List ℕ
  -- the lines that were run and answered are the first ones before `quit` and before a line that is too long
  pub first : script_lines (lines_of bytes) ≡ lines ++ others
  -- each in its turn
  pub ran : Ran s before lines before between commands answers
  -- behind them the run ended with its status
  pub stops : Stops s options before status between after others later front
  -- and a line that was refused ended it, where that is asked for
  pub refused : EndsRefused options.strict answers status
  pub grew : Grew before after (commands ++ later)
  -- their texts were written whole, and at most a front of one more
  pub wrote : Appends written_before written_after (texts options.echo answers ++ front)
  -- at the end of the script all lines were run, and the status tells which end it is
  pub ended : IsEnding status → (status ≡ ending 1 (lines_of bytes)) × (others ≡ [])

-- the same for an input that may tell its bytes
abbrev pub HasRunOver : Setting → ScriptOptions → Option (List ℕ) → CoreView → CoreView → Option (List ℕ) → Option (List ℕ) → Status → Type 0
HasRunOver s options left before after written_before written_after status =
    (bytes : List ℕ) × Tells left bytes × HasRun s options bytes before after written_before written_after status

-- the run came to the end of its script, and at Done where no line is too long
pub record Ends (bytes : List ℕ) (status : Status) : Type 0 where
  pub at_end : IsEnding status
  pub which : status ≡ ending 1 (lines_of bytes)
  pub short : are_short (lines_of bytes) ≡ true → status ≡ Done

-- A line of the script is cut off with this fault: the lines before it run, and it finds no room in the journal, needs more turns than the limit, or wants memory.
abbrev pub IsCutOff : Setting → CoreView → List (List ℕ) → SettleFault → Type 0
IsCutOff s before script fault =
    (lines : List (List ℕ)) × (others : List (List ℕ)) × (between : CoreView) × (after : CoreView) × (commands : List Command) × (later : List Command) × (answers : List Answer)
    × (script ≡ lines ++ others) × Ran s before lines before between commands answers × CutsFirst s others fault between after later

-- A line of the script is refused where it and those before it run.
abbrev pub IsRefusedIn : Setting → CoreView → List (List ℕ) → Type 0
IsRefusedIn s before script =
    (lines : List (List ℕ)) × (others : List (List ℕ)) × (between : CoreView) × (commands : List Command) × (answers : List Answer)
    × (script ≡ lines ++ others) × Ran s before lines before between commands answers × (has_refusal answers ≡ true)

-- Where no line of the script lacks room, none needs more turns than the limit, and with `--strict` none is refused, the run came to the end of its script, or
-- memory was wanting.
abbrev pub EndsScript : Setting → ScriptOptions → Option (List ℕ) → CoreView → Status → Type 0
EndsScript s options left before status =
    (bytes : List ℕ) × Tells left bytes
    × (¬ IsCutOff s before (script_lines (lines_of bytes)) NoRoom → ¬ IsCutOff s before (script_lines (lines_of bytes)) StillDue
    → (options.strict ≡ true → ¬ IsRefusedIn s before (script_lines (lines_of bytes))) → (status ≡ NoMemory) ⊎ Ends bytes status)

-- A run that a failed source ended: each whole line that was read has run, and its text is written. None of them is `quit` or too long.
pub record Faulted (s : Setting) (options : ScriptOptions) (left left' : Option (List ℕ)) (before after : CoreView) (written written' : Option (List ℕ)) : Type 0 where
  pub taken : List ℕ
  pub pending : List ℕ
  pub lines : List (List ℕ)
  pub commands : List Command
  pub answers : List Answer
  -- these bytes were read
  pub read : Consumes left left' taken
  -- whatever were to come behind them, the script begins with the lines that ran, and goes on with the pending bytes
  pub first : (more : List ℕ) → script_lines (lines_of (taken ++ more)) ≡ lines ++ script_lines (lines_of (pending ++ more))
  -- the pending bytes are no whole line, and aren't too long for one
  pub unended : NoLineFeed pending
  pub short : length pending ≤ longest_line
  pub ran : Ran s before lines before after commands answers
  -- with `--strict` none of them was refused
  pub unrefused : options.strict ≡ true → has_refusal answers ≡ false
  pub wrote : Appends written written' (texts options.echo answers)

abbrev pub FaultsAt : Status → Setting → ScriptOptions → Option (List ℕ) → Option (List ℕ) → CoreView → CoreView → Option (List ℕ) → Option (List ℕ) → Type 0
FaultsAt ReadFault s options left left' before after written written' = Faulted s options left left' before after written written'
FaultsAt _ s options left left' before after written written' = Unit {0}
