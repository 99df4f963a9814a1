-- What the growth of a journal goes through: a step in the world, its pass, and what it settles. Our own.
use Rattle.std.specs.Prelude.{◌≡◌, ℕ, ◌+◌, ◌++◌, ◌∷◌, [], List, count_by, length, map, not, sum, true, ◌==◌, ◌≤◌}
use Rattle.std.specs.Option.{unwrap_or}
use Rattle.component_state.specs.declared.open_period.OpenPeriod.{OpenPeriod}
use Rattle.component_state.specs.declared.pass.Passed.{Passed}
use Rattle.component_state.specs.Passes.{HasPassed}
use Rattle.journal_core.specs.Rooms.{JournalRows}
use Rattle.journal_core.specs.declared.entry.Entry.{Entry}
use Rattle.journal_core.specs.declared.entry.GateKey.{GateKey}
use Rattle.journal_core.specs.declared.entry.Opened.{Opened}
use Rattle.prop_map.specs.Words.{has}
use Rattle.bundle_life.specs.Lives.{stop_completed}
use Rattle.scr_consequences.specs.Ends.{draining_in}
use Rattle.scr_consequences.specs.Gets.{AreStanding, HaveStood, tokens_left, uses_left}
use Rattle.scr_laws.specs.Following.{entry_of}
use Rattle.scr_growth.specs.declared.listener_change.ListenerChange.{ListenerChange}
use Rattle.scr_growth.specs.declared.listener_change.ListenerChange.TheVariants.{Nothing, Listen, Unlisten, Remove}
use Rattle.scr_growth.specs.declared.passing.Finished.{Finished}
use Rattle.scr_growth.specs.declared.settling.Ending.{Ending}
use Rattle.scr_growth.specs.declared.settling.Lists.{Lists}
use Rattle.scr_growth.specs.declared.settling.Rest.{Rest}
use Rattle.scr_growth.specs.declared.told.Told.{Told}
use Rattle.scr_state.specs.declared.draft.Draft.{Draft}
use Rattle.scr_state.specs.declared.state.State.{State}
use Rattle.scr_unseen.specs.Unseen.{is_unseen}
use Rattle.scr_world.specs.Calls.{world_at}
use Rattle.scr_world.specs.Consequences.{shut_between, stage_of, stopped_by}
use Rattle.scr_world.specs.Legal.{IsLegal, MayCome}
use Rattle.scr_world.specs.Levels.{levels_of}
use Rattle.scr_world.specs.Lists.{changes_between, unregistered_held_between, world_after_entry}
use Rattle.scr_world.specs.Room.{has_room, needed_by, reserved, reserved_for}
use Rattle.scr_world.specs.Steps.{history_of}
use Rattle.scr_world.specs.Stepping.{failing, world_after_step}
use Rattle.scr_world.specs.Tables.{descriptions_of, listeners_by}
use Rattle.scr_world.specs.Worlds.{all_instances, satisfied_in}
use Rattle.scr_world.specs.declared.step.Step.{Step}
use Rattle.scr_world.specs.declared.world.World.{World}
use Rattle.service_listeners.specs.Listening.{ListenerTable, after_changes, after_listen, after_unlisten, without_listeners_of}

-- the world after a step and its pass, before anything settles
abbrev pub passed_world : Step → World → List OpenPeriod → World
passed_world step was now = record (world_after_step step was) { open_periods = now }

-- a state in whose world this is open
abbrev pub with_open : List OpenPeriod → State → State
with_open now s = record s { world = record s.world { open_periods = now } }

-- how many services open
abbrev pub services_among : List Opened → ℕ
services_among opened = count_by (λ (o : Opened). not (o.service == 0)) opened

-- listeners told what happened to services since a world before, and those that listen after a step
abbrev pub with_listeners_told : Step → World → World → World
with_listeners_told step was w = record w { listeners = listeners_by step (after_changes (changes_between was w) w.listeners) }

-- how many entries are reserved in a world, where these are the gets by token
abbrev pub reserved_with_tokens : World → ℕ → ℕ
reserved_with_tokens w tokens = sum (map reserved_for (all_instances w)) + tokens

-- as few instances as a platform has at most
abbrev pub HasFewInstances : World → Type 0
HasFewInstances w = length w.instances ≤ 66048

-- what settles after a pass
abbrev pub settled_world : Rest → List ℕ → World → World
settled_world r stopped w = record w {
  entries = r.entries;
  uses = uses_left r.gets w;
  tokens = tokens_left r.gets w;
  unregistered_held = r.unregistered_held;
  bundles = stop_completed stopped w.bundles;
}

-- what it is, where this was the world before the step
pub record IsRest (was w : World) (r : Rest) : Type 0 where
  pub entries : r.entries ≡ w.entries + 1
  pub gets : AreStanding w r.gets
  pub held : r.unregistered_held ≡ unregistered_held_between was w
  pub shut : r.shut ≡ shut_between was w
  pub reserved : r.reserved ≡ reserved_with_tokens w (length (tokens_left r.gets w))

-- ---- what the growth of a journal goes through

-- the services before a step, where its draft was put into a world that holds these periods since
pub record IsBefore (was w : World) (undo : Draft) (open_then : List OpenPeriod) : Type 0 where
  pub registry : (unwrap_or undo.registry w.registry).rows ≡ was.registry.rows
  pub periods : unwrap_or undo.open_periods open_then ≡ was.open_periods
  pub held : was.unregistered_held ≡ w.unregistered_held

-- some world is that before the step
abbrev pub HasBefore : World → Draft → List OpenPeriod → Type 0
HasBefore w undo open_then = (was : World) × IsBefore was w undo open_then

-- what becomes of the listeners besides, by a step
abbrev pub with_listener_change : ListenerChange → ListenerTable → ListenerTable
with_listener_change Nothing t = t
with_listener_change (Listen bundle filter) t = after_listen bundle filter t
with_listener_change (Unlisten listener) t = after_unlisten listener t
with_listener_change (Remove bundle) t = without_listeners_of bundle t

-- the descriptions after the step, and their levels
pub record AreCached (s : State) (undo : Draft) : Type 0 where
  pub descriptions : unwrap_or undo.descriptions s.descriptions ≡ descriptions_of s.world.documents
  pub levels : unwrap_or undo.levels s.levels ≡ levels_of (unwrap_or undo.descriptions s.descriptions)

-- a step that may come and has room, in a journal as long as a platform's may be
pub record MayGrow (journal : JournalRows Step) (step : Step) : Type 0 where
  pub legal : IsLegal journal.limit (history_of journal.entries)
  pub small : journal.limit ≤ 4194304
  pub reserved : journal.reserved ≡ reserved (world_at journal.entries)
  pub may : MayCome (world_at journal.entries) step
  pub room : has_room journal.limit (world_at journal.entries) (needed_by step) ≡ true

-- what is told of a step before it stands in the world
pub record IsTold (step : Step) (w : World) (t : Told) : Type 0 where
  pub failing : t.failing ≡ failing step w
  pub draining : t.draining ≡ draining_in w
  pub unseen : t.unseen ≡ is_unseen step w

-- the step stands in the world, and its pass hasn't run
pub record IsAmid (journal : JournalRows Step) (step : Step) (s : State) (undo : Draft) (t : Told) : Type 0 where
  pub grows : MayGrow journal step
  pub world : s.world ≡ world_after_step step (world_at journal.entries)
  pub cached : AreCached s undo
  pub before : IsBefore (world_at journal.entries) s.world undo s.world.open_periods
  pub told : IsTold step (world_at journal.entries) t
  pub satisfied : (number : ℕ) → has s.satisfied number ≡ has (satisfied_in (world_at journal.entries)) number

-- its pass has run, and its periods stand in the world
pub record IsSettling (journal : JournalRows Step) (step : Step) (s : State) (undo : Draft) (open_then : List OpenPeriod) (lists : Lists)
    (draining_ones : List ℕ) : Type 0 where
  pub pass : Passed
  pub passed : HasPassed (stage_of step (world_at journal.entries)) pass
  pub grows : MayGrow journal step
  pub world : s.world ≡ passed_world step (world_at journal.entries) pass.open_now
  pub closed : lists.closed ≡ pass.closed
  pub opened : lists.opened ≡ pass.opened
  pub stopped : lists.stopped ≡ stopped_by step (world_at journal.entries)
  pub cached : AreCached s undo
  pub before : IsBefore (world_at journal.entries) s.world undo open_then
  pub draining : draining_ones ≡ draining_in (world_at journal.entries)

-- and this is what its entry leaves
pub record IsEnding (journal : JournalRows Step) (step : Step) (s : State) (undo : Draft) (open_then : List OpenPeriod) (lists : Lists) (e : Ending) : Type 0 where
  pub draining_ones : List ℕ
  pub settling : IsSettling journal step s undo open_then lists draining_ones
  pub rest : (was : World) → IsBefore was s.world undo open_then → HaveStood step was s.world → draining_ones ≡ draining_in was → IsRest was s.world e.rest
  pub stopped : e.stopped ≡ lists.stopped

abbrev pub no_lists : Lists
no_lists = record { closed = []; opened = []; stopped = [] }

abbrev pub entry_with : Step → Lists → Entry Step
entry_with step lists = record { step = step; closed = lists.closed; opened = lists.opened; stopped = lists.stopped }

-- an entry was added
abbrev pub HasEntered : JournalRows Step → Step → Lists → ℕ → JournalRows Step → Type 0
HasEntered old step lists reserved_then new = new ≡ record old { entries = old.entries ++ entry_with step lists ∷ []; reserved = reserved_then }

pub record WasAdded (before now : JournalRows Step) : Type 0 where
  pub entry : Entry Step
  pub reserved_then : ℕ
  pub is : now ≡ record before { entries = before.entries ++ entry ∷ []; reserved = reserved_then }
  pub room : length before.entries + before.reserved ≤ before.limit

-- an entry stands, and the world is that after it
pub record HasSettled (old : JournalRows Step) (step : Step) (lists : Lists) (was : State) (new : JournalRows Step) (now : State)
    (gates : List GateKey) : Type 0 where
  pub journal : HasEntered old step lists (reserved now.world) new
  pub state : now ≡ record was { world = world_after_entry (entry_with step lists) (world_at old.entries) }
  pub shut : gates ≡ shut_between (world_at old.entries) now.world

pub record HasFinished (old : JournalRows Step) (step : Step) (was : State) (new : JournalRows Step) (now : State) (f : Finished) : Type 0 where
  pub pass : Passed
  pub passed : HasPassed (stage_of step (world_at old.entries)) pass
  pub journal : new ≡ record old { entries = old.entries ++ entry_of step pass (world_at old.entries) ∷ []; reserved = reserved now.world }
  pub state : now ≡ record was { world = world_after_entry (entry_of step pass (world_at old.entries)) (world_at old.entries) }
  pub shut : f.shut ≡ shut_between (world_at old.entries) now.world
  pub satisfied : (number : ℕ) → has f.satisfied number ≡ has pass.satisfied number
