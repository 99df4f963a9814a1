-- What the calls of the core do to its journal, which contracts see as the list of its entries, the oldest first.
use Rattle.std.specs.Prelude.{◌≡◌, ℕ, ◌==◌, ◌&&◌, List, [], ◌∷◌, ◌++◌, Bool, true, false, find, length, Option, option_map, Some, None, Result, Ok, Err}
use Rattle.std.specs.List.{list_any}
use Rattle.callback_orders.specs.declared.callback.Outcome.{Outcome}
use Rattle.journal_core.specs.declared.entry.Entry.{Entry}
use Rattle.journal_core.specs.declared.entry.GateKey.{GateKey}
use Rattle.scr_world.specs.declared.reply.Accepted.{Accepted}
use Rattle.scr_world.specs.declared.command.Command.{Command}
use Rattle.scr_world.specs.declared.reply.CoreFault.{CoreFault}
use Rattle.scr_world.specs.declared.reply.CoreFault.TheVariants.{JournalFull, OutOfMemory}
use Rattle.scr_world.specs.declared.step.Step.{Step}
use Rattle.scr_world.specs.declared.step.Step.TheVariants.{Command as Commanded, End, Drained, Got, Released}
use Rattle.scr_world.specs.declared.command.Command.TheVariants.{Get}
use Rattle.scr_world.specs.declared.instance.Instance.{Instance}
use Rattle.scr_world.specs.declared.marks.Token.{Token}
use Rattle.scr_world.specs.declared.turn.Ended.{Ended}
use Rattle.turn_work.specs.declared.work.TurnWork.{TurnWork}
use Rattle.scr_world.specs.Dues.{due_in, next_begin}
use Rattle.scr_world.specs.Refusals.{refusal}
use Rattle.scr_world.specs.Room.{has_room, needed_by}
use Rattle.scr_world.specs.TurnSteps.{work_under_way}
use Rattle.scr_world.specs.Consequences.{gate_of, reopened_by, shut_between}
use Rattle.scr_world.specs.Legal.{Follows, awaits_drain}
use Rattle.scr_world.specs.Lists.{world_of}
use Rattle.scr_world.specs.Replies.{MayLackMemory, Replies, changes}
use Rattle.scr_world.specs.Steps.{history_of}
use Rattle.scr_world.specs.declared.world.World.{World}

-- the world of a journal
abbrev pub world_at : List (Entry Step) → World
world_at journal = world_of (history_of journal)

-- the journal has grown by one entry with this step, which may follow it
abbrev pub Grown : ℕ → List (Entry Step) → Step → List (Entry Step) → Type 0
Grown limit old step new = (entry : Entry Step) × (entry.step ≡ step) × Follows limit entry (history_of old) × (new ≡ old ++ entry ∷ [])

-- a command that changes something is one entry; any other leaves the journal as it is
abbrev pub GrownIf : Bool → ℕ → List (Entry Step) → Step → List (Entry Step) → Type 0
GrownIf true limit old step new = Grown limit old step new
GrownIf false limit old step new = new ≡ old

-- what a command answers and does: a refusal leaves the journal as it was, and want of memory hides none but those that take memory
abbrev pub Commands : ℕ → List (Entry Step) → Command → Result Accepted CoreFault → List (Entry Step) → Type 0
Commands limit old command (Ok accepted) new =
    Replies limit (world_at old) command (Ok accepted.reply) × (accepted.shut ≡ shut_between (world_at old) (world_at new)) × GrownIf (changes limit (world_at old) command) limit old (Commanded command) new
Commands limit old command (Err OutOfMemory) new = MayLackMemory limit (world_at old) command × (new ≡ old)
Commands limit old command (Err fault) new = Replies limit (world_at old) command (Err fault) × (new ≡ old)

-- what the end of a turn does and answers
abbrev pub EndsTurn : ℕ → List (Entry Step) → ℕ → Outcome → Ended → List (Entry Step) → Type 0
EndsTurn limit old turn outcome ended new =
    Grown limit old (End turn outcome) new × (ended.shut ≡ shut_between (world_at old) (world_at new)) × (ended.reopened ≡ reopened_by turn outcome (world_at old))

-- the turn that begins next was taken: its work is told, and the journal has grown by its beginning
abbrev pub Takes : ℕ → List (Entry Step) → TurnWork → List (Entry Step) → Type 0
Takes limit old work new = (step : Step) × (next_begin (world_at old) ≡ Some step) × (work_under_way (world_at new) work.number ≡ Some work) × Grown limit old step new

-- no turn was taken: none is due
abbrev pub IsIdle : List (Entry Step) → List (Entry Step) → Type 0
IsIdle old new = (due_in (world_at old) ≡ None) × (new ≡ old)

-- the turn that begins next finds no room
abbrev pub FindsNoRoom : ℕ → List (Entry Step) → List (Entry Step) → Type 0
FindsNoRoom limit old new = (step : Step) × (next_begin (world_at old) ≡ Some step) × (has_room limit (world_at old) (needed_by step) ≡ false) × (new ≡ old)

-- an instance has this gate and awaits its drain
abbrev pub awaits_drain_at : World → GateKey → Instance → Bool
awaits_drain_at w key i = ((i.slot == key.slot) && (i.generation == key.generation)) && awaits_drain w i

-- the drain of a gate is that of the first instance that has it and awaits its drain
abbrev pub Drains : ℕ → List (Entry Step) → GateKey → List (Entry Step) → Type 0
Drains limit old key new = (i : Instance) × (find (awaits_drain_at (world_at old) key) (world_at old).instances ≡ Some i) × Grown limit old (Drained i.number) new

-- the gate of the first instance that awaits its drain
abbrev pub next_drain : World → Option GateKey
next_drain w = option_map gate_of (find (awaits_drain w) w.instances)

-- a get by token is taken: its note says where it stands. Want of memory hides no refusal
abbrev pub Gets : ℕ → List (Entry Step) → ℕ → ℕ → Result Token CoreFault → List (Entry Step) → Type 0
Gets limit old bundle service (Ok note) new = (note ≡ record { place = length old; bundle = bundle; service = service }) × Grown limit old (Got bundle service) new
Gets limit old bundle service (Err OutOfMemory) new = (refusal (world_at old) (Get bundle service) ≡ None) × (has_room limit (world_at old) 2 ≡ true) × (new ≡ old)
Gets limit old bundle service (Err JournalFull) new = (refusal (world_at old) (Get bundle service) ≡ None) × (has_room limit (world_at old) 2 ≡ false) × (new ≡ old)
Gets limit old bundle service (Err fault) new = (refusal (world_at old) (Get bundle service) ≡ Some fault) × (new ≡ old)

-- these two are one get by token: its entry stands at one place, and it is of one bundle and of one service
abbrev pub is_token : Token → Token → Bool
is_token note t = (t.place == note.place) && ((t.bundle == note.bundle) && (t.service == note.service))

-- a get by token stands
abbrev pub has_token : World → Token → Bool
has_token w note = list_any (is_token note) w.tokens

-- it is released where it stands
abbrev pub EndsUse : ℕ → List (Entry Step) → Token → Bool → List (Entry Step) → Type 0
EndsUse limit old note true new = (has_token (world_at old) note ≡ true) × Grown limit old (Released note.place) new
EndsUse limit old note false new = (has_token (world_at old) note ≡ false) × (new ≡ old)
