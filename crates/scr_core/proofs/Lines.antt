-- The lines of the turns follow a journal that grows.
use Rattle.std.proofs.Common.{◌≡◌, ℕ, List, [], ◌∷◌, ◌++◌, refl, ap, sym, ◌∙◌, Bool, true, false, Result, Ok, Err}
use Rattle.std.proofs.lemmas.List.{reverse-append}
use Rattle.journal_core.specs.declared.entry.Entry.{Entry}
use Rattle.journal_core.specs.declared.entry.GateKey.{GateKey}
use Rattle.scr_core.specs.Beginnings.{IsLineOf}
use Rattle.scr_world.specs.Calls.{Commands, Drains, EndsUse, Gets, Grown, GrownIf, world_at}
use Rattle.scr_world.specs.Lists.{world_after_entry, world_of}
use Rattle.scr_world.specs.Replies.{changes}
use Rattle.scr_world.specs.Stepping.{world_after_step}
use Rattle.scr_world.specs.Steps.{History, history_of}
use Rattle.scr_world.specs.TurnLines.{lines_by, turn_lines}
use Rattle.scr_world.specs.TurnSteps.{work_under_way}
use Rattle.scr_world.specs.declared.command.Command.{Command}
use Rattle.scr_world.specs.declared.lines.TurnLine.{TurnLine}
use Rattle.scr_world.specs.declared.marks.Token.{Token}
use Rattle.scr_world.specs.declared.reply.Accepted.{Accepted}
use Rattle.scr_world.specs.declared.reply.CoreFault.{CoreFault}
use Rattle.scr_world.specs.declared.reply.CoreFault.TheVariants.{NoBundle, NoComponent, WrongState, Stopping, SameName, Cycle, BundlesFull, ComponentsFull, ServicesFull, ConfigurationsFull, ListenersFull, NoService, NotOwner, NotUsing, NoListener, NoConfiguration, BadPid, FactoryClash, ActivationFailed, ActivationNoMemory, JournalFull, OutOfMemory}
use Rattle.scr_world.specs.declared.step.Step.{Step}
use Rattle.scr_world.specs.declared.step.Step.TheVariants.{Command as Commanded, Drained, Got, Released}
use Rattle.scr_world.specs.declared.world.World.{World}

-- an entry at the end of a journal is the first of its history
pub history_append : (entries : List (Entry Step)) (entry : Entry Step) → history_of (entries ++ entry ∷ []) ≡ entry ∷ history_of entries
history_append entries entry = reverse-append entries (entry ∷ [])

pub world_of_more : (entry : Entry Step) (past : History) → world_of (entry ∷ past) ≡ world_after_entry entry (world_of past)
unfolding world_of
world_of_more entry past = refl

-- ---- lines

-- the lines of a journal that has grown by a step
pub grown_lines : (limit : ℕ) (old new : List (Entry Step)) (step : Step) → Grown limit old step new → turn_lines (history_of new) ≡ lines_by step (world_at old) (turn_lines (history_of old))
grown_lines limit old new step (entry, its_step, may_follow, grew) =
    ap (λ (j : List (Entry Step)). turn_lines (history_of j)) grew
    ∙ ap turn_lines (history_append old entry)
    ∙ ap (λ (s : Step). lines_by s (world_at old) (turn_lines (history_of old))) its_step

-- with the beginning of a turn one more is there
pub begun_lines : (limit : ℕ) (old new : List (Entry Step)) (step : Step) (w : World) (line : TurnLine) (lines : List TurnLine) → w ≡ world_at old → IsLineOf step w line → lines ≡ turn_lines (history_of old) → Grown limit old step new
    → lines ++ line ∷ [] ≡ turn_lines (history_of new)
begun_lines limit old new step w line lines world is are grown =
    sym (is lines) ∙ ap (λ (v : World). lines_by step v lines) world ∙ ap (lines_by step (world_at old)) are ∙ sym (grown_lines limit old new step grown)

-- they stay as they are by a command, a drain, and by a get by token and its release
pub same_lines : (old new : List (Entry Step)) → new ≡ old → turn_lines (history_of new) ≡ turn_lines (history_of old)
same_lines old new same = ap (λ (j : List (Entry Step)). turn_lines (history_of j)) same

pub drained_lines : (limit : ℕ) (old new : List (Entry Step)) (key : GateKey) → Drains limit old key new → turn_lines (history_of new) ≡ turn_lines (history_of old)
drained_lines limit old new key (i, found, grown) = grown_lines limit old new (Drained i.number) grown

grown_if_lines : (b : Bool) (limit : ℕ) (old new : List (Entry Step)) (command : Command) → GrownIf b limit old (Commanded command) new → turn_lines (history_of new) ≡ turn_lines (history_of old)
grown_if_lines true limit old new command grown = grown_lines limit old new (Commanded command) grown
grown_if_lines false limit old new command same = same_lines old new same

refused_lines : (limit : ℕ) (old new : List (Entry Step)) (command : Command) (fault : CoreFault) → Commands limit old command (Err fault) new → new ≡ old
refused_lines limit old new command OutOfMemory is = is.1
refused_lines limit old new command (NoBundle a) is = is.1
refused_lines limit old new command (NoComponent a) is = is.1
refused_lines limit old new command (WrongState a) is = is.1
refused_lines limit old new command (Stopping a) is = is.1
refused_lines limit old new command (SameName a) is = is.1
refused_lines limit old new command (Cycle a) is = is.1
refused_lines limit old new command BundlesFull is = is.1
refused_lines limit old new command ComponentsFull is = is.1
refused_lines limit old new command ServicesFull is = is.1
refused_lines limit old new command ConfigurationsFull is = is.1
refused_lines limit old new command ListenersFull is = is.1
refused_lines limit old new command (NoService a) is = is.1
refused_lines limit old new command (NotOwner a) is = is.1
refused_lines limit old new command NotUsing is = is.1
refused_lines limit old new command (NoListener a) is = is.1
refused_lines limit old new command NoConfiguration is = is.1
refused_lines limit old new command BadPid is = is.1
refused_lines limit old new command FactoryClash is = is.1
refused_lines limit old new command (ActivationFailed a) is = is.1
refused_lines limit old new command (ActivationNoMemory a) is = is.1
refused_lines limit old new command JournalFull is = is.1

pub command_lines : (limit : ℕ) (old new : List (Entry Step)) (command : Command) (answer : Result Accepted CoreFault) → Commands limit old command answer new → turn_lines (history_of new) ≡ turn_lines (history_of old)
command_lines limit old new command (Ok accepted) is = grown_if_lines (changes limit (world_at old) command) limit old new command is.2
command_lines limit old new command (Err fault) is = same_lines old new (refused_lines limit old new command fault is)

pub ungot_lines : (limit : ℕ) (old new : List (Entry Step)) (bundle service : ℕ) (fault : CoreFault) → Gets limit old bundle service (Err fault) new → new ≡ old
ungot_lines limit old new bundle service OutOfMemory is = is.2
ungot_lines limit old new bundle service JournalFull is = is.2
ungot_lines limit old new bundle service (NoBundle a) is = is.1
ungot_lines limit old new bundle service (NoComponent a) is = is.1
ungot_lines limit old new bundle service (WrongState a) is = is.1
ungot_lines limit old new bundle service (Stopping a) is = is.1
ungot_lines limit old new bundle service (SameName a) is = is.1
ungot_lines limit old new bundle service (Cycle a) is = is.1
ungot_lines limit old new bundle service BundlesFull is = is.1
ungot_lines limit old new bundle service ComponentsFull is = is.1
ungot_lines limit old new bundle service ServicesFull is = is.1
ungot_lines limit old new bundle service ConfigurationsFull is = is.1
ungot_lines limit old new bundle service ListenersFull is = is.1
ungot_lines limit old new bundle service (NoService a) is = is.1
ungot_lines limit old new bundle service (NotOwner a) is = is.1
ungot_lines limit old new bundle service NotUsing is = is.1
ungot_lines limit old new bundle service (NoListener a) is = is.1
ungot_lines limit old new bundle service NoConfiguration is = is.1
ungot_lines limit old new bundle service BadPid is = is.1
ungot_lines limit old new bundle service FactoryClash is = is.1
ungot_lines limit old new bundle service (ActivationFailed a) is = is.1
ungot_lines limit old new bundle service (ActivationNoMemory a) is = is.1

pub got_lines : (limit : ℕ) (old new : List (Entry Step)) (bundle service : ℕ) (answer : Result Token CoreFault) → Gets limit old bundle service answer new → turn_lines (history_of new) ≡ turn_lines (history_of old)
got_lines limit old new bundle service (Ok note) is = grown_lines limit old new (Got bundle service) is.1
got_lines limit old new bundle service (Err fault) is = same_lines old new (ungot_lines limit old new bundle service fault is)

pub released_lines : (limit : ℕ) (old new : List (Entry Step)) (note : Token) (stood : Bool) → EndsUse limit old note stood new → turn_lines (history_of new) ≡ turn_lines (history_of old)
released_lines limit old new note true is = grown_lines limit old new (Released note.place) is.1
released_lines limit old new note false is = same_lines old new is.1

-- ---- the work of a turn under way

work_then : (entry : Entry Step) (w : World) (turn : ℕ) → work_under_way (world_after_entry entry w) turn ≡ work_under_way (world_after_step entry.step w) turn
unfolding world_after_entry
work_then entry w turn = refl

-- what an entry's lists make of a world leaves the work of turns
pub grown_work : (limit : ℕ) (old new : List (Entry Step)) (step : Step) (turn : ℕ) → Grown limit old step new → work_under_way (world_at new) turn ≡ work_under_way (world_after_step step (world_at old)) turn
grown_work limit old new step turn (entry, its_step, may_follow, grew) =
    ap (λ (j : List (Entry Step)). work_under_way (world_at j) turn) grew
    ∙ ap (λ (h : History). work_under_way (world_of h) turn) (history_append old entry)
    ∙ ap (λ (w : World). work_under_way w turn) (world_of_more entry (history_of old))
    ∙ work_then entry (world_at old) turn
    ∙ ap (λ (s : Step). work_under_way (world_after_step s (world_at old)) turn) its_step
