-- A legal journal: each entry is what may come after those before it. Our own.
use Rattle.std.specs.Prelude.{◌≡◌, ℕ, ◌==◌, ◌&&◌, [], ◌∷◌, Bool, true, not, Some, None, ⊤}
use Rattle.std.specs.List.{Contains, list_any}
use Rattle.callback_orders.specs.Grammar.{IsSequence, IsWhiteboardSequence}
use Rattle.component_state.specs.Passes.{closing, opening, opened_from}
use Rattle.component_state.specs.Periods.{is_open}
use Rattle.component_state.specs.Marks.{held_back}
use Rattle.journal_core.specs.declared.entry.Entry.{Entry}
use Rattle.prop_map.specs.Words.{has}
use Rattle.scr_world.specs.declared.step.Step.{Step}
use Rattle.scr_world.specs.declared.step.Step.TheVariants.{Command as Commanded, Begin, End, Drained, Got, Released}
use Rattle.scr_world.specs.declared.command.Command.TheVariants.{Get}
use Rattle.scr_world.specs.declared.instance.Instance.{Instance}
use Rattle.scr_world.specs.declared.marks.Token.{Token}
use Rattle.scr_world.specs.Consequences.{stage_of, stopped_by, is_draining}
use Rattle.scr_world.specs.Dues.{next_begin}
use Rattle.scr_world.specs.Instances.{has_turn}
use Rattle.scr_world.specs.Lists.{world_of}
use Rattle.scr_world.specs.Refusals.{refusal}
use Rattle.scr_world.specs.Replies.{has_effect}
use Rattle.scr_world.specs.Room.{has_room, needed_by}
use Rattle.scr_world.specs.Steps.{History}
use Rattle.scr_world.specs.Stepping.{instances_told, whiteboard_by}
use Rattle.scr_world.specs.declared.world.World.{World}
use Rattle.scr_world.specs.Worlds.{all_instances, origins_of, satisfied_in}

-- a turn is under way
abbrev pub is_under_way : World → ℕ → Bool
is_under_way w turn = list_any (has_turn turn) (all_instances w)

-- the gate of an instance is shut and its drain isn't posted
abbrev pub awaits_drain : World → Instance → Bool
awaits_drain w i = is_draining w i && not i.drained

-- a step may come: a command that isn't refused and changes something, the beginning of the first due callback, the end of a turn that is under way,
-- the drain of an instance that awaits it, a get by token that isn't refused, the release of one that stands
abbrev pub MayCome : World → Step → Type 0
MayCome w (Commanded command) = (refusal w command ≡ None) × (has_effect w command ≡ true)
MayCome w (Begin turn instance configuration consumer callback chosen) = next_begin w ≡ Some (Begin turn instance configuration consumer callback chosen)
MayCome w (End turn outcome) = is_under_way w turn ≡ true
MayCome w (Drained instance) = list_any (λ (i : Instance). (i.number == instance) && awaits_drain w i) w.instances ≡ true
MayCome w (Got bundle service) = refusal w (Get bundle service) ≡ None
MayCome w (Released place) = list_any (λ (t : Token). t.place == place) w.tokens ≡ true

-- just the satisfied component configurations that aren't held back are open
abbrev pub IsOpenFromScratch : World → Type 0
IsOpenFromScratch w = (number : ℕ) → is_open w.open_periods number ≡ (has (satisfied_in w) number && not (has (held_back w.failed w.open_periods (origins_of w.instances)) number))

-- an entry may follow a history: its step may come and has room, its lists are what follows from it, afterwards just the satisfied component
-- configurations that aren't held back are open, the callbacks of each instance are in order, and what is reserved has room
pub record Follows (limit : ℕ) (entry : Entry Step) (past : History) : Type 0 where
  pub step : MayCome (world_of past) entry.step
  pub room : has_room limit (world_of past) (needed_by entry.step) ≡ true
  pub closed : entry.closed ≡ closing (stage_of entry.step (world_of past)) (world_of (entry ∷ past)).open_periods
  pub opened : entry.opened ≡ opened_from (stage_of entry.step (world_of past)).next (opening (stage_of entry.step (world_of past)) (world_of (entry ∷ past)).open_periods)
  pub stopped : entry.stopped ≡ stopped_by entry.step (world_of past)
  pub scratch : IsOpenFromScratch (world_of (entry ∷ past))
  pub order : (i : Instance) → Contains (instances_told entry.step (world_of past)) i → IsSequence i.callbacks
  pub whiteboard : IsWhiteboardSequence (whiteboard_by entry.step (world_of past)).callbacks
  pub room_after : has_room limit (world_of (entry ∷ past)) 0 ≡ true

-- each entry may follow those before it
abbrev pub IsLegal : ℕ → History → Type 0
IsLegal limit [] = ⊤
IsLegal limit (entry ∷ past) = Follows limit entry past × IsLegal limit past
