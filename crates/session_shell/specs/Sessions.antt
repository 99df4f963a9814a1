-- A session of lines: those that it serves, what it notes and writes, and how it ends. Our own.
use Rattle.std.specs.Prelude.{◌≡◌, ◌<◌, ◌≤◌, ◌⊎◌, ℕ, List, [], ◌∷◌, ◌++◌, flat_map, length, take, Option, Some, Ok, Err, if◌then◌else◌}
use Rattle.std.specs.Io.KnownBytes.{Appends, Consumes}
use Rattle.fault_count.specs.Steps.{next_count}
use Rattle.hall_goings.specs.Went.{Went}
use Rattle.platform_sessions.specs.Commands.{TakesCommand}
use Rattle.platform_sessions.specs.Halls.{View}
use Rattle.platform_sessions.specs.Works.{Works}
use Rattle.script_shell.specs.Lines.{Line, is_too_long, lines_of, longest_line}
use Rattle.script_shell.specs.Reading.{NoLineFeed, Tells}
use Rattle.script_shell.specs.Runs.{script_lines}
use Rattle.scr_world.specs.declared.reply.CoreFault.TheVariants.{JournalFull as InCore, OutOfMemory as NoMemoryThere}
use Rattle.shell_lang.specs.ReplyTexts.{reply_text}
use Rattle.shell_lang.specs.ShellLines.{Asked, is_quit, shell_line}
use Rattle.shell_lang.specs.declared.shell_line.ShellLine.TheVariants.{Command as Commanded, Settle}
use Rattle.session_shell.specs.Items.{ServesLine, Setting, noted}
use Rattle.session_shell.specs.declared.item.SessionItem.{SessionItem}
use Rattle.session_shell.specs.declared.item.SessionItem.TheVariants.{Line as OfLine}
use Rattle.session_shell.specs.declared.session_end.SessionEnd.{SessionEnd}
use Rattle.session_shell.specs.declared.session_end.SessionEnd.TheVariants.{EndOfInput, Quit, ReadFault, WriteFault, JournalFull, LineTooLong, NoMemory}

-- ---- lines

-- these lines are served one after the other, each over what the pass has seen then, and these items are noted
abbrev pub ServedLines : Setting → List (List ℕ) → View → View → List SessionItem → Type 0
ServedLines s [] before after items = (after ≡ before) × (items ≡ [])
ServedLines s (line ∷ lines) before after items =
    (between : View) × (told : Option SessionItem) × (rest : List SessionItem)
    × ServesLine s (shell_line line) before between told × ServedLines s lines between after rest × (items ≡ noted told ++ rest)

-- how a session of these lines ends, of which the first has this number: at a line that is too long, at `quit`, or behind the last
abbrev pub lines_end : ℕ → List Line → SessionEnd
lines_end number [] = EndOfInput
lines_end number (line ∷ lines) =
    if is_too_long line then LineTooLong number else (if is_quit (shell_line line.text) then Quit else lines_end (next_count number) lines)

-- the ends at an end of the lines
abbrev pub IsLinesEnd : SessionEnd → Type 0
IsLinesEnd EndOfInput = Unit {0}
IsLinesEnd Quit = Unit {0}
IsLinesEnd (LineTooLong line) = Unit {0}
IsLinesEnd _ = ⊥

-- ---- texts

abbrev pub item_text : SessionItem → List ℕ
item_text (OfLine front reply nested) = reply_text reply

abbrev pub texts : List SessionItem → List ℕ
texts items = flat_map item_text items

-- ---- ends

-- a line finds no room in the journal, for its command or for the next of its turns
abbrev pub FillsUp : Setting → Asked → View → View → Type 0
FillsUp s (Ok (Commanded command)) before after = TakesCommand s.limits before after command (Err InCore)
FillsUp s (Ok Settle) before after = Works s.refuses s.limits before after s.limits.turns (Err InCore)
FillsUp s _ before after = ⊥

-- memory is wanting within what a line asks
abbrev pub Starves : Setting → Asked → View → View → Type 0
Starves s (Ok (Commanded command)) before after = TakesCommand s.limits before after command (Err NoMemoryThere)
Starves s (Ok Settle) before after = Works s.refuses s.limits before after s.limits.turns (Err NoMemoryThere)
Starves s _ before after = Went before after []

-- or for its note or its reply's text, behind it
abbrev pub WantsMemory : Setting → Asked → View → View → Type 0
WantsMemory s asked before after = Starves s asked before after ⊎ ((item : SessionItem) × ServesLine s asked before after (Some item))

-- a line is served and noted, but only a front of its reply's text is written
abbrev pub WritesFront : Setting → Asked → View → View → List SessionItem → List ℕ → Type 0
WritesFront s asked before after last front =
    (item : SessionItem) × (count : ℕ) × ServesLine s asked before after (Some item) × (last ≡ item ∷ []) × (count < length (item_text item)) × (front ≡ take count (item_text item))

-- this of the first of these lines
abbrev pub First : (Asked → Type 0) → List (List ℕ) → Type 0
First happens [] = ⊥
First happens (line ∷ lines) = happens (shell_line line)

-- nothing more is noted or written
abbrev pub IsSilent : List SessionItem → List ℕ → Type 0
IsSilent last front = (last ≡ []) × (front ≡ [])

-- How a session ends behind the lines whose replies are written whole, of which these others were left: at an end of the lines, or where the source
-- fails, nothing more happens; else the first of the others is all that does, with what is noted of it and the front of its reply that is written.
abbrev pub Stops : Setting → SessionEnd → List (List ℕ) → View → View → List SessionItem → List ℕ → Type 0
Stops s WriteFault others before after last front = First (λ asked. WritesFront s asked before after last front) others
Stops s JournalFull others before after last front = First (λ asked. FillsUp s asked before after) others × IsSilent last front
Stops s NoMemory others before after last front = ((after ≡ before) ⊎ First (λ asked. WantsMemory s asked before after) others) × IsSilent last front
Stops s _ others before after last front = (after ≡ before) × IsSilent last front

-- ---- a session

-- What a session did with an input, for its pass, its notes and a sink: it served the first lines, in order and each once, and wrote each reply whole before
-- it served the next line.
pub record HasServed (s : Setting) (bytes : List ℕ) (before after : View) (notes notes' : List SessionItem) (written written' : Option (List ℕ)) (end : SessionEnd) : Type 0 where
  pub lines : List (List ℕ)
  pub others : List (List ℕ)
  pub between : View
  pub items : List SessionItem
  pub last : List SessionItem
  pub front : List ℕ
  -- the lines that were served and answered are the first ones before `quit` and before a line that is too long
  pub first : script_lines (lines_of bytes) ≡ lines ++ others
  -- each in its turn
  pub served : ServedLines s lines before between items
  -- behind them the session ended so
  pub stops : Stops s end others between after last front
  pub noted_all : notes' ≡ notes ++ (items ++ last)
  -- their replies were written whole, and at most a front of one more
  pub wrote : Appends written written' (texts items ++ front)
  -- at an end of the lines all were served, and it is the one that the bytes tell
  pub ended : IsLinesEnd end → (end ≡ lines_end 1 (lines_of bytes)) × (others ≡ [])

-- the same for an input that may tell its bytes
abbrev pub HasServedOver : Setting → Option (List ℕ) → View → View → List SessionItem → List SessionItem → Option (List ℕ) → Option (List ℕ) → SessionEnd → Type 0
HasServedOver s left before after notes notes' written written' end =
    (bytes : List ℕ) × Tells left bytes × HasServed s bytes before after notes notes' written written' end

-- ---- faults

-- A session that a failed source ended: each whole line that was read is served, noted, and its reply is written. None of them is `quit` or too long.
pub record Faulted (s : Setting) (left left' : Option (List ℕ)) (before after : View) (notes notes' : List SessionItem) (written written' : Option (List ℕ)) : Type 0 where
  pub taken : List ℕ
  pub pending : List ℕ
  pub lines : List (List ℕ)
  pub items : List SessionItem
  -- these bytes were read
  pub read : Consumes left left' taken
  -- whatever were to come behind them, the lines begin with those that were served, and go on with the pending bytes
  pub first : (more : List ℕ) → script_lines (lines_of (taken ++ more)) ≡ lines ++ script_lines (lines_of (pending ++ more))
  -- the pending bytes are no whole line, and aren't too long for one
  pub unended : NoLineFeed pending
  pub short : length pending ≤ longest_line
  pub served : ServedLines s lines before after items
  pub noted_all : notes' ≡ notes ++ items
  pub wrote : Appends written written' (texts items)

abbrev pub FaultsAt : SessionEnd → Setting → Option (List ℕ) → Option (List ℕ) → View → View → List SessionItem → List SessionItem → Option (List ℕ) → Option (List ℕ) → Type 0
FaultsAt ReadFault s left left' before after notes notes' written written' = Faulted s left left' before after notes notes' written written'
FaultsAt _ s left left' before after notes notes' written written' = Unit {0}

-- the count of the source's faults after a session: it fails once, at the read that ends the session, or never
abbrev pub read_faults_after : ℕ → SessionEnd → ℕ
read_faults_after count ReadFault = next_count count
read_faults_after count _ = count

-- the same for the sink
abbrev pub write_faults_after : ℕ → SessionEnd → ℕ
write_faults_after count WriteFault = next_count count
write_faults_after count _ = count
