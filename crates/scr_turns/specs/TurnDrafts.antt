-- What the steps of turns change. Our own.
use Rattle.std.specs.Prelude.{◌≡◌, ◌<◌, ◌≤◌, ℕ, ◌+◌, ◌++◌, ◌∷◌, [], List, None, length, map, true}
use Rattle.std.specs.List.{Contains}
use Rattle.std.specs.Option.{unwrap_or}
use Rattle.callback_orders.specs.declared.callback.Callback.{Callback}
use Rattle.callback_orders.specs.Sequences.{begun}
use Rattle.component_state.specs.Inside.Ready.{are_apart}
use Rattle.scr_consequences.specs.Ends.{HaveNextGenerations}
use Rattle.scr_laws.specs.Numbers.{HasFewNumbers}
use Rattle.scr_state.specs.Rows.{HasRoomAmong, with_change}
use Rattle.scr_state.specs.declared.draft.Draft.{Draft}
use Rattle.scr_turns.specs.declared.drafts.TurnChanges.{TurnChanges}
use Rattle.scr_turns.specs.declared.failing.FailureChanges.{FailureChanges}
use Rattle.scr_turns.specs.declared.gets.GetChanges.{GetChanges}
use Rattle.scr_turns.specs.declared.instances.InstanceChanges.{InstanceChanges}
use Rattle.scr_turns.specs.declared.numbers.NumberChanges.{NumberChanges}
use Rattle.scr_world.specs.Instances.{lives_on, with_effect_of_begin}
use Rattle.scr_world.specs.Stepping.{before_turn, begins_by, failed_by, failures_by, generations_by, instances_by, makes_by, whiteboard_by}
use Rattle.scr_world.specs.Tables.{tokens_by, uses_by}
use Rattle.scr_world.specs.declared.instance.Instance.{Instance}
use Rattle.scr_world.specs.declared.marks.Token.{Token}
use Rattle.scr_world.specs.declared.step.Step.{Step}
use Rattle.scr_world.specs.declared.world.World.{World}
use Rattle.use_counts.specs.declared.uses.Holder.TheVariants.{Token as ByToken}
use Rattle.use_counts.specs.Uses.{holder_count}

-- an instance that a turn tells of a callback
abbrev pub told_in : World → ℕ → Callback → Instance → Instance
told_in w turn callback i = with_effect_of_begin (before_turn w) callback (record i { turn = turn; callbacks = i.callbacks ++ begun callback ∷ [] })

-- each instance has a number of its own
abbrev pub HaveOwnNumbers : List Instance → Type 0
HaveOwnNumbers is = are_apart (map (λ (i : Instance). i.number) is) ≡ true

-- each instance was told last by a turn of its own too, and lives on; each get by token has a place of its own, and is counted; few numbers were given,
-- each gate has one left, and there are as few instances as a platform has at most
pub record AreKnown (w : World) : Type 0 where
  pub numbers : HaveOwnNumbers w.instances
  pub turns : are_apart (map (λ (i : Instance). i.turn) w.instances) ≡ true
  pub living : (i : Instance) → Contains w.instances i → lives_on i ≡ true
  pub places : are_apart (map (λ (t : Token). t.place) w.tokens) ≡ true
  pub counted : (t : Token) → Contains w.tokens t → 0 < holder_count ByToken t.bundle t.service w.uses
  pub few : HasFewNumbers w
  pub next : HaveNextGenerations w.generations
  pub instances : length w.instances ≤ 66048

-- what a step of a turn makes of the failures, of the instances, of the numbers given out and of the gets, each with room for a row that comes or goes
pub record AreFailureChanges (step : Step) (w : World) (c : FailureChanges) : Type 0 where
  pub failed : c.failed ≡ failed_by step w
  pub failures : with_change c.failures w.failures ≡ w.failures ++ failures_by step w
  pub room : HasRoomAmong c.failures w.failures

pub record AreInstanceChanges (step : Step) (w : World) (c : InstanceChanges) : Type 0 where
  pub instances : with_change c.instances w.instances ≡ instances_by step w
  pub whiteboard : unwrap_or c.whiteboard w.whiteboard ≡ whiteboard_by step w
  pub room : HasRoomAmong c.instances w.instances

pub record AreNumberChanges (step : Step) (w : World) (c : NumberChanges) : Type 0 where
  pub instances_numbered : c.instances_numbered ≡ w.instances_numbered + makes_by step
  pub turns_begun : c.turns_begun ≡ w.turns_begun + begins_by step
  pub generations : with_change c.generations w.generations ≡ generations_by step w
  pub room : HasRoomAmong c.generations w.generations

pub record AreGetChanges (step : Step) (w : World) (c : GetChanges) : Type 0 where
  pub uses : unwrap_or c.uses w.uses ≡ uses_by step w.tokens w.uses
  pub tokens : with_change c.tokens w.tokens ≡ tokens_by step w.entries w.tokens
  pub room : HasRoomAmong c.tokens w.tokens

-- what a step of a turn changes
pub record IsTurnChange (step : Step) (w : World) (c : TurnChanges) : Type 0 where
  pub failing : AreFailureChanges step w c.failing
  pub living : AreInstanceChanges step w c.living
  pub numbers : AreNumberChanges step w c.numbers
  pub gets : AreGetChanges step w c.gets

-- the draft of it: all other tables stay
unfoldable pub draft_with : TurnChanges → World → Draft
draft_with c w = record {
  documents = None;
  registry = None;
  configurations = None;
  components = None;
  components_numbered = w.components_numbered;
  open_periods = None;
  failed = c.failing.failed;
  failures = c.failing.failures;
  instances = c.living.instances;
  whiteboard = c.living.whiteboard;
  instances_numbered = c.numbers.instances_numbered;
  turns_begun = c.numbers.turns_begun;
  generations = c.numbers.generations;
  uses = c.gets.uses;
  tokens = c.gets.tokens;
  descriptions = None;
  levels = None;
}
