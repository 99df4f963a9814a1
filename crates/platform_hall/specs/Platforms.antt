-- What the calls of a platform do: the platform before and after, as contracts see it. Our own; callbacks and their outcomes are OSGi
-- Compendium 8, chapter 112, component life cycle.
use Rattle.std.specs.Prelude.{◌≡◌, ℕ, zero, suc, ◌+◌, ◌==◌, ◌&&◌, List, [], ◌∷◌, Bool, true, false, not, Option, Some, None, is_some, Result, Ok, Err, ◌⊎◌}
use Rattle.std.specs.List.{list_any}
use Rattle.std.specs.Option.{option_map_or}
use Rattle.callback_orders.specs.declared.callback.Outcome.{Outcome}
use Rattle.callback_orders.specs.declared.word.Called.{Called}
use Rattle.callback_orders.specs.Grammar.{is_create}
use Rattle.callback_orders.specs.Sequences.{is_done, is_outstanding}
use Rattle.journal_core.specs.declared.entry.Entry.{Entry}
use Rattle.journal_core.specs.declared.entry.GateKey.{GateKey}
use Rattle.kind_trait.specs.Meanings.{Told}
use Rattle.prop_map.specs.declared.properties.Property.{Property}
use Rattle.scr_world.specs.declared.reply.Accepted.{Accepted}
use Rattle.scr_world.specs.declared.command.Command.{Command}
use Rattle.scr_world.specs.declared.reply.CoreFault.{CoreFault}
use Rattle.scr_world.specs.declared.reply.CoreFault.TheVariants.{JournalFull, OutOfMemory}
use Rattle.scr_world.specs.declared.reply.Reply.{Reply}
use Rattle.scr_world.specs.declared.step.Step.{Step}
use Rattle.scr_world.specs.declared.step.Step.TheVariants.{End}
use Rattle.scr_world.specs.declared.instance.Instance.{Instance}
use Rattle.scr_world.specs.Calls.{Commands, Drains, Grown, Takes, next_drain, world_at}
use Rattle.scr_requests.specs.Cores.{CoreView}
use Rattle.scr_world.specs.Dues.{due_in, next_begin}
use Rattle.scr_world.specs.Legal.{awaits_drain}
use Rattle.scr_world.specs.Room.{has_room as has_room_for, needed_by}
use Rattle.scr_world.specs.TurnSteps.{work_under_way}
use Rattle.scr_world.specs.declared.world.World.{World}
use Rattle.scr_world.specs.Worlds.{all_instances}
use Rattle.turn_runner.specs.declared.settle_fault.SettleFault.{SettleFault}
use Rattle.turn_work.specs.declared.work.TurnWork.{TurnWork}
use Rattle.turn_runner.specs.Outcomes.{IsOutcome, is_refused}
use Rattle.turn_runner.specs.Turns.{IsSettled}
use Rattle.platform_hall.specs.declared.finish_fault.FinishFault.{FinishFault}
use Rattle.platform_hall.specs.declared.finish_fault.FinishFault.TheVariants.{NoTurn, OutOfMemory as NoMemory}

-- the world of a platform
abbrev pub world : CoreView → World
world p = world_at p.journal

-- a turn is due
abbrev pub has_due : CoreView → Bool
has_due p = is_some (due_in (world p))

-- the journal has room for the turn that begins next
abbrev pub has_room : CoreView → Bool
has_room p = option_map_or (λ step. has_room_for p.limits.journal (world p) (needed_by step)) (next_begin (world p)) true

-- a gate that is shut awaits its drain
abbrev pub has_drain : CoreView → Bool
has_drain p = list_any (awaits_drain (world p)) (world p).instances

-- the work of a turn that is under way
abbrev pub running : CoreView → ℕ → Option TurnWork
running p turn = work_under_way (world p) turn

-- the first callback was a Create, and is done
abbrev pub is_made : List Called → Bool
is_made [] = false
is_made (c ∷ calls) = is_create c.callback && is_done c.outcome

-- a living instance has its object from the end of its Create on; that of the whiteboard has none
abbrev pub has_object : CoreView → ℕ → Bool
has_object p instance = list_any (λ (i : Instance). (i.number == instance) && is_made i.callbacks) (world p).instances

-- the first due turn begins, with the next number: the journal has grown by its beginning
abbrev pub Begins : CoreView → TurnWork → CoreView → Type 0
Begins before work after = (after.limits ≡ before.limits) × (work.number ≡ (world before).turns_begun + 1) × Takes before.limits.journal before.journal work after.journal

-- the turn of a number ends: the journal has grown by its end
abbrev pub Ends : CoreView → ℕ → Outcome → CoreView → Type 0
Ends before turn outcome after = (after.limits ≡ before.limits) × Grown before.limits.journal before.journal (End turn outcome) after.journal

-- the journal has grown by so many drains, each that of the first instance that awaited one then
abbrev pub Drained : ℕ → ℕ → List (Entry Step) → List (Entry Step) → Type 0
Drained limit zero old new = new ≡ old
Drained limit (suc count) old new =
    (between : List (Entry Step)) × (key : GateKey) × (next_drain (world_at between) ≡ Some key) × Drained limit count old between × Drains limit between key new

-- drains are posted
abbrev pub Posts : CoreView → CoreView → Type 0
Posts before after = (after.limits ≡ before.limits) × (count : ℕ) × Drained before.limits.journal count before.journal after.journal

-- the core answers a command so
abbrev pub CoreTakes : CoreView → Command → Result Accepted CoreFault → CoreView → Type 0
CoreTakes before command answer after = (after.limits ≡ before.limits) × Commands before.limits.journal before.journal command answer after.journal

-- a command is taken, and drains are posted
abbrev pub Accepts : CoreView → Command → Reply → CoreView → Type 0
Accepts before command reply after =
    (accepted : Accepted) × (between : CoreView) × (accepted.reply ≡ reply) × CoreTakes before command (Ok accepted) between × Posts between after

-- what a command answers and does: afterwards no drain is left to be posted. Want of memory leaves all as it was, or with the command's
-- entry and some of the drains
abbrev pub TakesCommand : CoreView → Command → Result Reply CoreFault → CoreView → Type 0
TakesCommand before command (Ok reply) after = Accepts before command reply after × (has_drain after ≡ false)
TakesCommand before command (Err OutOfMemory) after = CoreTakes before command (Err OutOfMemory) after ⊎ ((reply : Reply) × Accepts before command reply after)
TakesCommand before command (Err fault) after = CoreTakes before command (Err fault) after

-- what a settling of so many turns at most answers and does, where component code refuses so
abbrev pub SettlesAs : (List ℕ → List Property → Told → Bool) → ℕ → CoreView → Result ℕ SettleFault → CoreView → Type 0
SettlesAs refuses turns before answer after = IsSettled has_due has_room has_drain Begins Begins Ends Posts refuses turns before answer after

-- what the beginning of the first due turn answers and does: its number, under which it is under way, or nothing exactly where none is due
abbrev pub BeginsTurn : CoreView → Result (Option ℕ) CoreFault → CoreView → Type 0
BeginsTurn before (Ok None) after = (has_due before ≡ false) × (after ≡ before)
BeginsTurn before (Ok (Some turn)) after = (work : TurnWork) × (work.number ≡ turn) × Begins before work after × (running after turn ≡ Some work)
BeginsTurn before (Err JournalFull) after = (has_due before ≡ true) × (has_room before ≡ false) × (after ≡ before)
BeginsTurn before (Err OutOfMemory) after = after ≡ before
BeginsTurn before (Err fault) after = ⊥

-- a turn that is under way is run, ends with this outcome, which is Refused exactly where component code refuses it, and drains are posted
abbrev pub Finishes : (List ℕ → List Property → Told → Bool) → CoreView → ℕ → Outcome → CoreView → Type 0
Finishes refuses before turn outcome after =
    (work : TurnWork) × (ended : CoreView) × (running before turn ≡ Some work) × IsOutcome (is_refused refuses work) outcome × Ends before turn outcome ended × Posts ended after

-- what finishing a turn answers and does: no turn of this number is under way exactly where it is told so. Want of memory leaves all as it
-- was, or the turn has ended and some of the drains are posted
abbrev pub FinishesTurn : (List ℕ → List Property → Told → Bool) → CoreView → ℕ → Result Outcome FinishFault → CoreView → Type 0
FinishesTurn refuses before turn (Ok outcome) after = Finishes refuses before turn outcome after × (has_drain after ≡ false)
FinishesTurn refuses before turn (Err NoTurn) after = (running before turn ≡ None) × (after ≡ before)
FinishesTurn refuses before turn (Err NoMemory) after = (after ≡ before) ⊎ ((outcome : Outcome) × Finishes refuses before turn outcome after)

-- no turn is under way, of the whiteboard's instance neither
abbrev pub none_under_way : CoreView → Bool
none_under_way p = not (list_any (λ (i : Instance). is_outstanding i.callbacks) (all_instances (world p)))
