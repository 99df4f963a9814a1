-- What serving one line answers and does, and noting and writing its reply. Our own form.
use Rattle.std.specs.Prelude.{◌≡◌, ◌≢◌, ◌<◌, ℕ, true, List, [], ◌∷◌, ◌++◌, length, take, Option, Some, None, Result, Ok, Err, IfOk}
use Rattle.std.specs.Io.KnownBytes.{Appends}
use Rattle.hall_goings.specs.Went.{Went}
use Rattle.platform_sessions.specs.Halls.{View}
use Rattle.script_shell.specs.Looks.{Looks}
use Rattle.script_shell.specs.Refusals.{is_told}
use Rattle.platform_sessions.specs.Cores.{CoreView}
use Rattle.scr_world.specs.declared.reply.CoreFault.{CoreFault}
use Rattle.scr_world.specs.declared.reply.CoreFault.TheVariants.{JournalFull as InCore, OutOfMemory as NoMemoryThere}
use Rattle.shell_lang.specs.ShellLines.{Asked}
use Rattle.shell_lang.specs.declared.shell_line.ShellLine.{ShellLine}
use Rattle.shell_lang.specs.declared.shell_reply.Refusal.TheVariants.{Core as OfCore}
use Rattle.shell_lang.specs.declared.shell_reply.ShellReply.{ShellReply}
use Rattle.shell_lang.specs.declared.shell_reply.ShellReply.TheVariants.{Refused}
use Rattle.session_shell.specs.Items.{ServesLine, ServesLook, Setting, line_at, noted}
use Rattle.session_shell.specs.Sessions.{FillsUp, Starves, WantsMemory, WritesFront, item_text, texts, write_faults_after}
use Rattle.session_shell.specs.declared.item.SessionItem.{SessionItem}
use Rattle.session_shell.specs.declared.line_stop.LineStop.{LineStop}
use Rattle.session_shell.specs.declared.line_stop.LineStop.TheVariants.{JournalFull as NoRoom, NoMemory as NoMemoryLeft}
use Rattle.session_shell.specs.declared.session_end.SessionEnd.{SessionEnd}
use Rattle.session_shell.specs.declared.session_end.SessionEnd.TheVariants.{JournalFull, NoMemory, WriteFault}

-- how a session ends whose line stops so
abbrev pub end_of : LineStop → SessionEnd
end_of NoRoom = JournalFull
end_of NoMemoryLeft = NoMemory

-- a line is served, or stops the session
abbrev pub Serves : Setting → Asked → View → View → Result (Option SessionItem) LineStop → Type 0
Serves s asked before after (Ok told) = ServesLine s asked before after told
Serves s asked before after (Err NoRoom) = FillsUp s asked before after
Serves s asked before after (Err NoMemoryLeft) = Starves s asked before after

-- a line with a reply is served so, or stops the session
abbrev pub ServesOr : Setting → Asked → (Setting → View → View → SessionItem → Type 0) → View → View → Result SessionItem LineStop → Type 0
ServesOr s asked serves before after (Ok item) = serves s before after item
ServesOr s asked serves before after (Err NoRoom) = FillsUp s asked before after
ServesOr s asked serves before after (Err NoMemoryLeft) = Starves s asked before after

-- a line that looks is served so, or memory is wanting for it
abbrev pub LooksOr : Setting → ShellLine → View → View → Result SessionItem LineStop → Type 0
LooksOr s line before after (Ok item) = ServesLook s line before after item
LooksOr s line before after (Err NoRoom) = ⊥
LooksOr s line before after (Err NoMemoryLeft) = Went before after []

-- a full journal and want of memory stop the session, and any other fault is told at a front
abbrev pub TellsFault : ℕ → CoreFault → Result SessionItem LineStop → Type 0
TellsFault front fault (Ok item) = (is_told fault ≡ true) × (item ≡ line_at front (Refused (OfCore fault)))
TellsFault front fault (Err NoRoom) = fault ≡ InCore
TellsFault front fault (Err NoMemoryLeft) = fault ≡ NoMemoryThere

-- what stops the turns of a session: a full journal, or anything else
abbrev pub StopsBy : CoreFault → LineStop → Type 0
StopsBy fault NoRoom = fault ≡ InCore
StopsBy fault NoMemoryLeft = fault ≢ InCore

-- an item is noted and its text written whole; or the sink fails within the text; or memory is wanting, and nothing is noted or written
abbrev pub TellsItem : SessionItem → List SessionItem → List SessionItem → Option (List ℕ) → Option (List ℕ) → Result (Unit {0}) SessionEnd → Type 0
TellsItem item notes notes' written written' (Ok _) = (notes' ≡ notes ++ item ∷ []) × Appends written written' (item_text item)
TellsItem item notes notes' written written' (Err WriteFault) =
    (notes' ≡ notes ++ item ∷ []) × ((count : ℕ) × (count < length (item_text item)) × Appends written written' (take count (item_text item)))
TellsItem item notes notes' written written' (Err NoMemory) = (notes' ≡ notes) × (written' ≡ written)
TellsItem item notes notes' written written' (Err _) = ⊥

-- nothing is noted or written
abbrev pub Untold : List SessionItem → List SessionItem → Option (List ℕ) → Option (List ℕ) → Type 0
Untold notes notes' written written' = (notes' ≡ notes) × (written' ≡ written)

-- a line is served, noted, and its reply written whole, or the session ends so
abbrev pub AnswersLine : Setting → Asked → View → View → List SessionItem → List SessionItem → Option (List ℕ) → Option (List ℕ) → Result (Unit {0}) SessionEnd → Type 0
AnswersLine s asked before after notes notes' written written' (Ok _) =
    (told : Option SessionItem) × ServesLine s asked before after told × (notes' ≡ notes ++ noted told) × Appends written written' (texts (noted told))
AnswersLine s asked before after notes notes' written written' (Err WriteFault) =
    (last : List SessionItem) × (front : List ℕ) × WritesFront s asked before after last front × (notes' ≡ notes ++ last) × Appends written written' front
AnswersLine s asked before after notes notes' written written' (Err JournalFull) = FillsUp s asked before after × Untold notes notes' written written'
AnswersLine s asked before after notes notes' written written' (Err NoMemory) = WantsMemory s asked before after × Untold notes notes' written written'
AnswersLine s asked before after notes notes' written written' (Err _) = ⊥

-- the sink's count of faults behind a line
abbrev pub faults_after_answer : ℕ → Result (Unit {0}) SessionEnd → ℕ
faults_after_answer count (Ok _) = count
faults_after_answer count (Err end) = write_faults_after count end

-- a look that a line asks for was made at this core, with this answer
abbrev pub IsLooked : {E : Type 0} → ShellLine → CoreView → Option (Result ShellReply E) → Type 0
IsLooked line core None = ⊥
IsLooked line core (Some answer) = IfOk answer (λ reply. Looks line core reply)

-- the reply of a look that was made
abbrev pub LooksAt : {E : Type 0} → Option (Result ShellReply E) → Option ShellReply → Type 0
LooksAt told (Some reply) = told ≡ Some (Ok reply)
LooksAt told None = Unit {0}
