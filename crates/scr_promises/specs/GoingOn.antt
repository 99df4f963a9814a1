-- What may follow a legal journal, and what it waits for. Our own.
use Rattle.std.specs.Prelude.{◌≡◌, ◌↔◌, ℕ, true, false, Some}
use Rattle.std.specs.List.{Contains}
use Rattle.callback_orders.specs.declared.callback.Outcome.{Outcome}
use Rattle.callback_orders.specs.declared.due.DueRef.{DueRef}
use Rattle.journal_core.specs.declared.entry.Entry.{Entry}
use Rattle.scr_world.specs.Dues.{due_in, next_begin}
use Rattle.scr_world.specs.Legal.{Follows, awaits_drain, is_under_way}
use Rattle.scr_world.specs.Lists.{world_of}
use Rattle.scr_world.specs.Quiet.{IsQuiet}
use Rattle.scr_world.specs.Room.{has_room, needed_by}
use Rattle.scr_world.specs.Steps.{History}
use Rattle.scr_world.specs.declared.instance.Instance.{Instance}
use Rattle.scr_world.specs.declared.marks.Token.{Token}
use Rattle.scr_world.specs.declared.step.Step.{Step}
use Rattle.scr_world.specs.declared.step.Step.TheVariants.{End, Drained, Released}

-- an entry of this step follows the journal
abbrev pub HasEntry : ℕ → History → Step → Type 0
HasEntry limit past step = (entry : Entry Step) × (entry.step ≡ step) × Follows limit entry past

-- a beginning isn't reserved: an entry of it follows exactly where the journal has room for it
abbrev pub FollowsWhereRoom : ℕ → History → Step → Type 0
FollowsWhereRoom limit past step = HasEntry limit past step ↔ (has_room limit (world_of past) (needed_by step) ≡ true)

-- the turn that is due is there, and follows where there is room
abbrev pub HasDueTurn : ℕ → History → Type 0
HasDueTurn limit past = (step : Step) × (next_begin (world_of past) ≡ Some step) × FollowsWhereRoom limit past step

-- a journal waits for nothing any more; or for the platform, whose next turn may begin; or for a callback that is under way; or for a caller inside an
-- instance that is ending, whose drain isn't posted; or for room, since it is too full for the turn that is due
pub data WaitsFor (limit : ℕ) (past : History) : Type 0 where
  for_nothing : IsQuiet (world_of past) → WaitsFor limit past
  for_platform : (step : Step) → next_begin (world_of past) ≡ Some step → HasEntry limit past step → WaitsFor limit past
  for_callback : (turn : ℕ) → is_under_way (world_of past) turn ≡ true → WaitsFor limit past
  for_caller : (i : Instance) → Contains (world_of past).instances i → awaits_drain (world_of past) i ≡ true → WaitsFor limit past
  for_room : (step : Step) → next_begin (world_of past) ≡ Some step → has_room limit (world_of past) (needed_by step) ≡ false → WaitsFor limit past

-- a journal isn't stuck: each turn that is under way may end with each outcome, each drain that is awaited may be posted and each get by token that stands
-- may be released, however full the journal is, as their entries are reserved; where a turn is due it is there and follows where there is room; and what
-- the journal waits for is one of the above
pub record IsNotStuck (limit : ℕ) (past : History) : Type 0 where
  pub ends : (turn : ℕ) → is_under_way (world_of past) turn ≡ true → (outcome : Outcome) → HasEntry limit past (End turn outcome)
  pub drains : (i : Instance) → Contains (world_of past).instances i → awaits_drain (world_of past) i ≡ true → HasEntry limit past (Drained i.number)
  pub releases : (t : Token) → Contains (world_of past).tokens t → HasEntry limit past (Released t.place)
  pub begins : (due : DueRef) → due_in (world_of past) ≡ Some due → HasDueTurn limit past
  pub waits : WaitsFor limit past
