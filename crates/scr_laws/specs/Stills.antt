-- Entries whose pass closes and opens nothing.
use Rattle.std.specs.Prelude.{Some, filter, ℕ, ◌+◌, ◌==◌, ◌≡◌, ◌&&◌, ◌||◌, List, [], Bool, true, false, not}
use Rattle.std.specs.List.{Contains, list_all, list_any}
use Rattle.callback_orders.specs.declared.callback.Callback.{Callback}
use Rattle.callback_orders.specs.declared.callback.Outcome.{Outcome}
use Rattle.scr_world.specs.declared.instance.Instance.{Instance}
use Rattle.callback_orders.specs.declared.callback.Callback.TheVariants.{Create, Bind, Updated, Unbind, Activate, Modified, Deactivate, Destroy}
use Rattle.scr_world.specs.declared.step.Step.TheVariants.{Command as Commanded, Begin, End, Drained, Got, Released}
use Rattle.scr_world.specs.Instances.{lives_on}
use Rattle.component_state.specs.declared.component.Component.{Component}
use Rattle.component_state.specs.declared.origin.Origin.{Origin}
use Rattle.component_state.specs.Marks.{with_leaving}
use Rattle.component_state.specs.declared.pass.Passed.{Passed}
use Rattle.component_state.specs.Components.{component_of, is_changed_at}
use Rattle.scr_world.specs.Dues.{choices}
use Rattle.component_state.specs.Passes.{Stage, pass_order_of, held_back_in, satisfied_where, services_in}
use Rattle.component_state.specs.declared.open_period.OpenPeriod.{OpenPeriod}
use Rattle.component_state.specs.Periods.{is_current, is_open}
use Rattle.component_state.specs.Inside.Misled.{chose_outdated, is_misled}
use Rattle.prop_map.specs.Words.{has, is_empty}
use Rattle.scr_world.specs.declared.step.Step.{Step}
use Rattle.scr_world.specs.declared.world.World.{World}
use Rattle.journal_core.specs.declared.entry.Entry.{Entry}
use Rattle.scr_world.specs.Consequences.{stage_in, stopped_by}
use Rattle.scr_world.specs.Lists.{is_service_held, tokens_in, uses_in}
use Rattle.service_listeners.specs.Listening.{ListenerTable}
use Rattle.service_registry.specs.declared.row.ServiceRow.{ServiceRow}
use Rattle.reference_match.specs.declared.need.Need.{Need}
use Rattle.component_state.specs.Components.{needs_of}
use Rattle.reference_match.specs.Targets.{meets}
use Rattle.scr_world.specs.Tables.{listeners_by}
use Rattle.scr_world.specs.Legal.{IsOpenFromScratch}
use Rattle.scr_world.specs.Stepping.{failing, instances_told, world_after_step, whiteboard_by}
use Rattle.callback_orders.specs.Sequences.{is_sequence, is_whiteboard_sequence}
use Rattle.scr_world.specs.Room.{has_room}
use Rattle.scr_world.specs.Worlds.{origins_of, satisfied_in as satisfied_at, is_registered}

-- a pass that closes and opens nothing
abbrev pub passed_nothing : Stage → Passed
passed_nothing s = record { closed = []; opened = []; open_now = s.open_before; satisfied = satisfied_where s s.open_before; next_service = s.next }

-- what was open is right as it is: nothing fails, just the satisfied ones that aren't held back are open, none of these has ceased, and no living
-- instance of an open one is misled
pub record IsStill (s : Stage) : Type 0 where
  pub failing : s.failing ≡ []
  pub scratch : (number : ℕ) → is_open s.open_before number ≡ (has (satisfied_where s s.open_before) number && not (has (held_back_in s s.open_before) number))
  pub living : (c : Component) → is_open s.open_before c.number ≡ true → Contains (pass_order_of s) c → c.exists ≡ true
  pub led : (c : Component) → is_open s.open_before c.number ≡ true → Contains (pass_order_of s) c → list_any (is_misled s.place s.open_before (services_in s s.open_before) c) s.origins ≡ false

-- between two entries: open is what is satisfied from scratch, and hasn't ceased, choices stand, and no change of properties lies ahead
pub record IsAtRest (w : World) : Type 0 where
  pub scratch : IsOpenFromScratch w
  pub living : let s = stage_in w [] in (c : Component) → is_open s.open_before c.number ≡ true → Contains (pass_order_of s) c → c.exists ≡ true
  pub choices : let s = stage_in w [] in (c : Component) → is_open s.open_before c.number ≡ true → Contains (pass_order_of s) c → list_any (is_misled s.place s.open_before (services_in s s.open_before) c) s.origins ≡ false
  pub behind : (c : Component) → Contains w.components c → is_changed_at w.entries c ≡ false

-- a step leaves what a pass looks at
pub record LeavesStage (step : Step) (w : World) : Type 0 where
  pub place : (world_after_step step w).entries ≡ w.entries
  pub documents : (world_after_step step w).documents ≡ w.documents
  pub registry : (world_after_step step w).registry ≡ w.registry
  pub components : (world_after_step step w).components ≡ w.components
  pub open_periods : (world_after_step step w).open_periods ≡ w.open_periods
  pub origins : origins_of (world_after_step step w).instances ≡ origins_of w.instances
  pub failing : failing step w ≡ []

-- an entry without consequences
abbrev pub bare : Step → Entry Step
bare step = record { step = step; closed = []; opened = []; stopped = [] }

-- the world one entry later
abbrev pub later : World → World
later w = record w { entries = w.entries + 1 }

-- the steps that leave what a pass looks at: a beginning other than that of a Create, a drain, a get by token and its release, and an end after which each
-- instance lives on and nothing has failed
abbrev pub is_quiet_begin : Callback → Bool
is_quiet_begin Create = false
is_quiet_begin (Bind reference service) = true
is_quiet_begin (Updated reference service) = true
is_quiet_begin (Unbind reference service) = true
is_quiet_begin Activate = true
is_quiet_begin Modified = true
is_quiet_begin Deactivate = true
is_quiet_begin Destroy = true

abbrev pub is_quiet_step : Step → World → Bool
is_quiet_step (Commanded command) w = false
is_quiet_step (Begin turn instance configuration consumer callback chosen) w = is_quiet_begin callback
is_quiet_step (End turn outcome) w = list_all lives_on (instances_told (End turn outcome) w) && is_empty (failing (End turn outcome) w)
is_quiet_step (Drained instance) w = true
is_quiet_step (Got bundle service) w = true
is_quiet_step (Released place) w = true

-- the living instances behind a step matter to its pass as those before it: of a satisfied component configuration an instance leaves behind the step exactly where
-- one left before it, and none is misled
pub record LeavesLives (lives : List Origin) (w : World) : Type 0 where
  pub leaving : (c : Component) → has (satisfied_at w) c.number ≡ true → has (with_leaving w.open_periods lives) c.number ≡ has (with_leaving w.open_periods (origins_of w.instances)) c.number
  pub led : let s = stage_in w [] in (c : Component) → is_open s.open_before c.number ≡ true → Contains (pass_order_of s) c → list_any (is_misled s.place s.open_before (services_in s s.open_before) c) lives ≡ false

-- a step leaves what a pass looks at, but for living instances that make no difference to it
pub record LeavesPass (step : Step) (w : World) : Type 0 where
  pub place : (world_after_step step w).entries ≡ w.entries
  pub documents : (world_after_step step w).documents ≡ w.documents
  pub registry : (world_after_step step w).registry ≡ w.registry
  pub components : (world_after_step step w).components ≡ w.components
  pub open_periods : (world_after_step step w).open_periods ≡ w.open_periods
  pub failing : failing step w ≡ []
  pub lives : LeavesLives (origins_of (world_after_step step w).instances) w

-- an end that ends lives, of component configurations that aren't satisfied
abbrev pub is_past : World → Instance → Bool
is_past w i = lives_on i || not (has (satisfied_at w) i.origin.configuration)

abbrev pub is_quiet_end : ℕ → Outcome → World → Bool
is_quiet_end turn outcome w = list_all (is_past w) (instances_told (End turn outcome) w) && is_empty (failing (End turn outcome) w)

-- what a pass goes through is known
pub record IsKnown (w : World) : Type 0 where
  pub there : (c : Component) → Contains (pass_order_of (stage_in w [])) c → Contains w.components c
  pub found : (c : Component) → Contains (pass_order_of (stage_in w [])) c → component_of w.components c.number ≡ Some c

-- the life that a Create makes
abbrev pub life_made : World → ℕ → Origin
life_made w configuration = record { configuration = configuration; created = w.entries; chosen = choices w configuration }

-- a life's choice that isn't right any more where these are open
abbrev pub is_misled_in : Stage → List OpenPeriod → Component → Origin → Bool
is_misled_in s now c l = (l.configuration == c.number) && (is_current now l && chose_outdated (services_in s now) c l)

-- what else an entry without consequences has to keep: no bundle has stopped, callbacks are in order, and what is reserved has room
pub record KeepsOrder (limit : ℕ) (step : Step) (w : World) : Type 0 where
  pub stopped : stopped_by step w ≡ []
  pub order : list_all (λ (i : Instance). is_sequence i.callbacks) (instances_told step w) ≡ true
  pub whiteboard : is_whiteboard_sequence (whiteboard_by step w).callbacks ≡ true
  pub left : has_room limit (later (world_after_step step w)) 0 ≡ true

-- these and those direct services look the same to each need of these component configurations
abbrev pub SeeSame : List ServiceRow → List ServiceRow → List Component → Type 0
SeeSame these those cs = (c : Component) → Contains cs c → (n : Need) → Contains (needs_of c) n → filter (meets n) these ≡ filter (meets n) those

-- a stage with other direct services
abbrev pub with_direct : List ServiceRow → ℕ → Stage → Stage
with_direct those next s = record s { direct = those; next = next }
