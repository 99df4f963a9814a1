-- Entries without consequences.
use Rattle.std.specs.Prelude.{ℕ, ◌≡◌, ◌≤◌, ◌&&◌, ◌||◌, List, [], Bool, true, false, not, Some}
use Rattle.std.specs.List.{Contains, list_all}
use Rattle.callback_orders.specs.declared.callback.Callback.TheVariants.{Create}
use Rattle.callback_orders.specs.declared.callback.Outcome.{Outcome}
use Rattle.callback_orders.specs.Grammar.{is_activate, is_create, is_destroy}
use Rattle.callback_orders.specs.Sequences.{is_done}
use Rattle.component_state.specs.declared.origin.Choice.{Choice}
use Rattle.component_state.specs.declared.origin.Origin.{Origin}
use Rattle.component_state.specs.declared.open_period.OpenPeriod.{OpenPeriod}
use Rattle.component_state.specs.declared.pass.Passed.{Passed}
use Rattle.component_state.specs.Passes.{HasPassed, Stage, next_from, opening, satisfied_where}
use Rattle.component_state.specs.Inside.Ready.{IsReady}
use Rattle.component_state.specs.Periods.{is_current}
use Rattle.component_state.specs.Rows.{with_present_properties}
use Rattle.journal_core.specs.declared.entry.Entry.{Entry}
use Rattle.scr_world.specs.declared.command.Command.TheVariants.{Get, Unget, Listen, Unlisten}
use Rattle.scr_world.specs.declared.step.Step.{Step}
use Rattle.scr_world.specs.declared.step.Step.TheVariants.{Command as Commanded, Begin, End, Drained, Got, Released}
use Rattle.scr_world.specs.declared.instance.Instance.{Instance}
use Rattle.scr_world.specs.declared.world.World.{World}
use Rattle.scr_world.specs.Consequences.{stage_of, stopped_in}
use Rattle.scr_world.specs.Dues.{choices, next_begin}
use Rattle.scr_world.specs.Instances.{has_turn, last_is, lives_on}
use Rattle.scr_world.specs.Lists.{world_after_entry}
use Rattle.scr_world.specs.Stepping.{counted_components}
use Rattle.scr_laws.specs.Stills.{IsAtRest, IsKnown, life_made}
use Rattle.scr_laws.specs.Askeds.{IsAsked}

-- what an entry's lists say of its pass
abbrev pub passed_by : Entry Step → World → Passed
passed_by entry w = let s = stage_of entry.step w in let now = (world_after_entry entry w).open_periods in record {
  closed = entry.closed;
  opened = entry.opened;
  open_now = now;
  satisfied = satisfied_where s now;
  next_service = next_from s.next (opening s now);
}

-- the end of a turn leaves its instance as it is: it is none of a Destroy, and of a Create or an Activate just where that was done
abbrev pub leaves_instance : ℕ → Outcome → Instance → Bool
leaves_instance turn outcome i = not (has_turn turn i) || (not (last_is is_destroy i.callbacks) && (is_done (Some outcome) || (not (last_is is_create i.callbacks) && not (last_is is_activate i.callbacks))))

-- the steps whose entries have no consequences
abbrev pub is_still_step : Step → World → Bool
is_still_step (Commanded (Get bundle service)) w = true
is_still_step (Commanded (Unget bundle service)) w = true
is_still_step (Commanded (Listen bundle filter)) w = true
is_still_step (Commanded (Unlisten listener)) w = true
is_still_step (Commanded command) w = false
is_still_step (Begin turn instance configuration consumer callback chosen) w = true
is_still_step (End turn outcome) w = list_all (leaves_instance turn outcome) w.instances
is_still_step (Drained instance) w = true
is_still_step (Got bundle service) w = true
is_still_step (Released place) w = true

-- laws of a world of a legal history that still entries rest on
pub record IsCalm (w : World) : Type 0 where
  pub rest : IsAtRest w
  pub known : IsKnown w
  pub asked : IsAsked w
  -- a living instance lives on
  pub living : (i : Instance) → Contains w.instances i → lives_on i ≡ true
  -- a stopping bundle waits for an instance
  pub waiting : stopped_in w ≡ []
  -- services of component configurations have their properties
  pub renewed_all : (p : OpenPeriod) → Contains w.open_periods p → with_present_properties (counted_components w) p ≡ p
  -- a Create that begins is of an open period, with the choices of now
  pub creates : (turn instance configuration consumer : ℕ) (chosen : List Choice) → next_begin w ≡ Some (Begin turn instance configuration consumer Create chosen) → (chosen ≡ choices w configuration) × (is_current w.open_periods (life_made w configuration) ≡ true)
