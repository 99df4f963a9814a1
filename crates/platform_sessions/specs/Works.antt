-- What running turns does in a hall, for a pass. Our own; callbacks and their outcomes are OSGi Compendium 8, chapter 112, component life
-- cycle.
use Rattle.std.specs.Prelude.{◌≡◌, ℕ, ◌+◌, ◌≤◌, ◌<◌, ◌⊎◌, ◌==◌, List, [], ◌∷◌, filter, length, not, Bool, true, false, Option, Some, None, is_some, option_map, IfSome, MatchOption, Result, Ok, Err}
use Rattle.std.specs.Arc.{arc_value}
use Rattle.std.specs.List.{Contains, find}
use Rattle.hall_goings.specs.Went.{Went}
use Rattle.hall_locked.specs.Owned.{turn_thing}
use Rattle.hall_locked.specs.declared.part.Part.{Part}
use Rattle.journal_core.specs.declared.entry.Entry.{Entry}
use Rattle.kind_trait.specs.Meanings.{Told}
use Rattle.hall_locked.specs.Platforms.{BeginsTurn, has_drain, has_due, running}
use Rattle.platform_sessions.specs.Commands.{AreDrains}
use Rattle.platform_sessions.specs.Halls.{Own, View, core_seen, core_up_to}
use Rattle.prop_map.specs.declared.properties.Property.{Property}
use Rattle.hall_locked.specs.Cores.{CoreView}
use Rattle.scr_world.specs.Stepping.{begins_by}
use Rattle.scr_world.specs.declared.command.Limits.{Limits}
use Rattle.scr_world.specs.declared.reply.CoreFault.{CoreFault}
use Rattle.scr_world.specs.declared.step.Step.{Step}
use Rattle.scr_world.specs.declared.step.Step.TheVariants.{Begin, End, Drained}
use Rattle.turn_runner.specs.Outcomes.{IsOutcome, is_refused, makes_object, needs_object}
use Rattle.turn_runner.specs.declared.turn.Ran.{Ran}
use Rattle.turn_work.specs.declared.work.TurnWork.{TurnWork}

-- ---- entries of turns

-- a turn's beginning or end, or a drain
abbrev pub IsTurnStep : Step → Type 0
IsTurnStep (Begin turn instance configuration consumer callback chosen) = Unit {0}
IsTurnStep (End turn outcome) = Unit {0}
IsTurnStep (Drained instance) = Unit {0}
IsTurnStep _ = ⊥

abbrev pub AreTurnSteps : Own → Type 0
AreTurnSteps [] = Unit {0}
AreTurnSteps (x ∷ xs) = IsTurnStep x.1.step × AreTurnSteps xs

-- how many turns begin
abbrev pub begins_in : Own → ℕ
begins_in [] = 0
begins_in (x ∷ xs) = begins_by x.1.step + begins_in xs

abbrev pub IsBeginOf : ℕ → Step → Type 0
IsBeginOf turn (Begin begun instance configuration consumer callback chosen) = begun ≡ turn
IsBeginOf turn _ = ⊥

abbrev pub IsEndOf : ℕ → Step → Type 0
IsEndOf turn (End ended outcome) = ended ≡ turn
IsEndOf turn _ = ⊥

abbrev pub HasEnd : ℕ → Own → Type 0
HasEnd turn [] = ⊥
HasEnd turn (x ∷ xs) = IsEndOf turn x.1.step ⊎ HasEnd turn xs

abbrev pub EndsIn : Step → Own → Type 0
EndsIn (Begin turn instance configuration consumer callback chosen) behind = HasEnd turn behind
EndsIn _ behind = Unit {0}

-- each turn that begins among these ends among these
abbrev pub AllEnd : Own → Type 0
AllEnd [] = Unit {0}
AllEnd (x ∷ xs) = EndsIn x.1.step xs × AllEnd xs

-- ---- outcomes

-- a turn ends at its place with an outcome of the work that it has in what stands before: Refused exactly where component code refuses it
abbrev pub IsTold : (List ℕ → List Property → Told → Bool) → Limits → View → ℕ → Step → Type 0
IsTold refuses limits pass place (End turn outcome) =
    (place ≤ length pass.seen) × ((work : TurnWork) × (running (core_up_to limits pass place) turn ≡ Some work) × IsOutcome (is_refused refuses work) outcome)
IsTold refuses limits pass place _ = Unit {0}

abbrev pub AllTold : (List ℕ → List Property → Told → Bool) → Limits → View → Own → Type 0
AllTold refuses limits pass [] = Unit {0}
AllTold refuses limits pass (x ∷ xs) = IsTold refuses limits pass x.0 x.1.step × AllTold refuses limits pass xs

-- ---- drains behind turns

-- at some front behind this place nothing awaits its drain
pub record IsPostedBehind (limits : Limits) (pass : View) (place : ℕ) : Type 0 where
  pub front : ℕ
  pub behind : place < front
  pub within : front ≤ length pass.seen
  pub posted : has_drain (core_up_to limits pass front) ≡ false

abbrev pub IsPostedFor : Limits → View → ℕ → Step → Type 0
IsPostedFor limits pass place (End turn outcome) = IsPostedBehind limits pass place
IsPostedFor limits pass place _ = Unit {0}

-- what each end made due is posted
abbrev pub AllPosted : Limits → View → Own → Type 0
AllPosted limits pass [] = Unit {0}
AllPosted limits pass (x ∷ xs) = IsPostedFor limits pass x.0 x.1.step × AllPosted limits pass xs

-- ---- turns that ran

-- the pass appended entries of turns alone, and posted what they made due
pub record RanTurns (refuses : List ℕ → List Property → Told → Bool) (limits : Limits) (before after : View) (own : Own) : Type 0 where
  pub went : Went before after own
  pub turns : AreTurnSteps own
  pub told : AllTold refuses limits after own
  pub posted : AllPosted limits after own

-- so many turns began, and each of them ended
pub record RanSoMany (refuses : List ℕ → List Property → Told → Bool) (limits : Limits) (before after : View) (count : ℕ) : Type 0 where
  pub own : Own
  pub ran : RanTurns refuses limits before after own
  pub begun : count ≡ begins_in own
  pub ended : AllEnd own

-- what running so many turns at most answers and does: fewer ran only where none is due in all that the pass has seen then, and a refusal is
-- that of the beginning of the next turn there
abbrev pub Works : (List ℕ → List Property → Told → Bool) → Limits → View → View → ℕ → Result ℕ CoreFault → Type 0
Works refuses limits before after turns (Ok count) =
    RanSoMany refuses limits before after count × (count ≤ turns) × (count < turns → has_due (core_seen limits after) ≡ false)
Works refuses limits before after turns (Err fault) =
    ((count : ℕ) × (count < turns) × RanSoMany refuses limits before after count) × BeginsTurn (core_seen limits after) (Err fault) (core_seen limits after)

-- ---- what is kept for a pass, as a turn begins and ends

-- the things without those of this number
abbrev pub things_but : ℕ → List (ℕ × ℕ) → List (ℕ × ℕ)
things_but thing things = filter (λ (x : ℕ × ℕ). not (x.1 == thing)) things

-- where a turn has begun, all is as before once it is taken out again; else nothing changes
abbrev pub IsOneMore : Result (Option ℕ) CoreFault → List (ℕ × ℕ) → List (ℕ × ℕ) → Type 0
IsOneMore (Ok (Some turn)) before after = things_but (turn_thing turn) after ≡ before
IsOneMore (Ok None) before after = after ≡ before
IsOneMore (Err fault) before after = after ≡ before

-- ---- one turn

-- the turn is under way, and this pass has it
abbrev pub IsMine : ℕ → View → Type 0
IsMine turn pass = Contains pass.kept (pass.number, turn_thing turn)

-- the first due turn has begun in one turn at the lock; it is the pass's, with this work
pub record HasBegun (limits : Limits) (before after : View) (turn : ℕ) (work : TurnWork) : Type 0 where
  pub place : ℕ
  pub entry : Entry Step
  pub step : IsBeginOf turn entry.step
  pub went : Went before after ((place, entry) ∷ [])
  pub mine : IsMine turn after
  pub work_is : running (core_seen limits after) turn ≡ Some work

-- what a turn came to is of the work that it has in all that the pass has seen: Refused exactly where component code refuses it
abbrev pub IsRunFor : {O : Type 0} → (List ℕ → List Property → Told → Bool) → Limits → View → ℕ → Ran O → Type 0
IsRunFor refuses limits pass turn ran =
    (work : TurnWork) × (running (core_seen limits pass) turn ≡ Some work) × IsOutcome (is_refused refuses work) ran.outcome × (is_some ran.made ≡ makes_object work ran.outcome)

-- what is handed out of a turn that has begun: its number, and its work with the object that it is told to, or nothing where memory was
-- wanting
abbrev pub IsTask : {X : Type 0} → TurnWork → Option (TurnWork × Option X) → Type 0
IsTask work None = Unit {0}
IsTask work (Some task) = (task.0 ≡ work) × (is_some task.1 ≡ needs_object work)

-- the object that is kept for an instance, the first one of them
abbrev pub object_kept : {O : Type 0} → List (Part O) → ℕ → Option O
object_kept parts instance = option_map (λ part. arc_value part.object) (find (λ part. part.instance == instance) parts)

-- what is handed out has the object that is kept for the turn's instance
abbrev pub IsOwn : {O X : Type 0} → (X → O) → List (Part O) → Option (TurnWork × Option X) → Type 0
IsOwn shared parts task = IfSome task (λ t. MatchOption t.1 (Unit {0}) (λ object. object_kept parts t.0.instance ≡ Some (shared object)))

-- what a value answers where a turn is begun in it, without what is handed out
abbrev pub begun_of : {X : Type 0} → Result (Option (ℕ × X)) CoreFault → Result (Option ℕ) CoreFault
begun_of (Ok (Some begun)) = Ok (Some begun.0)
begun_of (Ok None) = Ok None
begun_of (Err fault) = Err fault

-- what is handed out, where a turn has begun in this core
abbrev pub HandsOut : {X : Type 0} → CoreView → Result (Option (ℕ × Option (TurnWork × Option X))) CoreFault → Type 0
HandsOut core (Ok (Some begun)) = (work : TurnWork) → running core begun.0 ≡ Some work → IsTask work begun.1
HandsOut core (Ok None) = Unit {0}
HandsOut core (Err fault) = Unit {0}

-- what the beginning of the first due turn answers and does
abbrev pub BeginsOne : {X : Type 0} → Limits → View → View → Result (Option (ℕ × Option (TurnWork × Option X))) CoreFault → Type 0
BeginsOne limits before after (Ok (Some begun)) = (work : TurnWork) × HasBegun limits before after begun.0 work × IsTask work begun.1
BeginsOne limits before after (Ok None) = Went before after [] × BeginsTurn (core_seen limits after) (Ok None) (core_seen limits after)
BeginsOne limits before after (Err fault) = Went before after [] × BeginsTurn (core_seen limits after) (Err fault) (core_seen limits after)

-- a turn of the pass has ended in one turn at the lock, as it was told
pub record HasEnded (refuses : List ℕ → List Property → Told → Bool) (limits : Limits) (before after : View) (turn : ℕ) : Type 0 where
  pub place : ℕ
  pub entry : Entry Step
  pub step : IsEndOf turn entry.step
  pub went : Went before after ((place, entry) ∷ [])
  pub within : place < length after.seen
  pub told : IsTold refuses limits after place entry.step

-- the turn has ended, and the drains that were awaited are posted behind it
pub record EndsOne (refuses : List ℕ → List Property → Told → Bool) (limits : Limits) (before after : View) (turn : ℕ) : Type 0 where
  pub place : ℕ
  pub entry : Entry Step
  pub step : IsEndOf turn entry.step
  pub drains : Own
  pub went : Went before after ((place, entry) ∷ drains)
  pub drained : AreDrains drains
  pub told : IsTold refuses limits after place entry.step
  pub posted : IsPostedBehind limits after place

-- what running the first due turn answers and does: it begins and ends, and drains are posted; or none is due
abbrev pub RunsDue : (List ℕ → List Property → Told → Bool) → Limits → View → View → Result Bool CoreFault → Type 0
RunsDue refuses limits before after (Ok true) = RanSoMany refuses limits before after 1
RunsDue refuses limits before after (Ok false) = Went before after [] × (has_due (core_seen limits after) ≡ false)
RunsDue refuses limits before after (Err fault) = Went before after [] × BeginsTurn (core_seen limits after) (Err fault) (core_seen limits after)
