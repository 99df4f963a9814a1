-- Why a component configuration that is satisfied isn't active. OSGi Compendium 8, chapter 112, "ComponentConfigurationDTO", "Delayed Component", "Component Life Cycle"; which of several reasons is
-- told, turns and keys are our own.
use Rattle.std.specs.Prelude.{ℕ, ◌==◌, ◌&&◌, ◌||◌, List, Bool, not, Option, Some, None, find, option_map, option_and_then, reverse, if◌then◌else◌}
use Rattle.callback_orders.specs.Grammar.{is_activate, is_create}
use Rattle.callback_orders.specs.Sequences.{is_failed, is_outstanding}
use Rattle.component_causes.specs.declared.head.ComponentHead.{ComponentHead}
use Rattle.component_causes.specs.declared.head.Standing.{Standing}
use Rattle.component_causes.specs.declared.head.Standing.TheVariants.{Failed, Leaving, Turn, Wanted, Unasked}
use Rattle.component_state.specs.declared.component.Component.{Component}
use Rattle.component_state.specs.Components.{existing_of}
use Rattle.component_state.specs.Periods.{is_current, is_open}
use Rattle.component_state.specs.Rows.{service_in}
use Rattle.prop_map.specs.Words.{is_empty}
use Rattle.scr_world.specs.declared.instance.Instance.{Instance}
use Rattle.scr_world.specs.declared.lines.TurnLine.{TurnLine}
use Rattle.scr_world.specs.declared.marks.Failure.{Failure}
use Rattle.scr_world.specs.declared.world.World.{World}
use Rattle.scr_world.specs.Instances.{last_callback}
use Rattle.scr_world.specs.Readers.{state_by}
use Rattle.scr_world.specs.Wanted.{consumer_views, keys_for}
use Rattle.scr_world.specs.Worlds.{satisfied_in}

-- ---- failed

-- the last failure of a component configuration
abbrev pub last_failure : List Failure → ℕ → Option Failure
last_failure failures configuration = find (λ (f : Failure). f.configuration == configuration) (reverse failures)

-- a turn of an instance, its Create or Activate, ended without success
abbrev pub is_failed_turn : ℕ → TurnLine → Bool
is_failed_turn instance line = (line.instance == instance) && ((is_create line.callback || is_activate line.callback) && is_failed line.outcome)

abbrev pub failed_with : TurnLine → Option Standing
failed_with line = option_map (Failed line.instance line.callback) line.outcome

abbrev pub failed_by : List TurnLine → Failure → Option Standing
failed_by lines f = option_and_then failed_with (find (is_failed_turn f.instance) lines)

abbrev pub failed_standing : World → List TurnLine → Component → Option Standing
failed_standing w lines c = option_and_then (failed_by lines) (last_failure w.failures c.number)

-- ---- satisfied

-- an instance of a period that has ended, and one of the open period
abbrev pub has_left : World → Component → Instance → Bool
has_left w c i = (i.origin.configuration == c.number) && not (is_current w.open_periods i.origin)

abbrev pub is_present : World → Component → Instance → Bool
is_present w c i = (i.origin.configuration == c.number) && is_current w.open_periods i.origin

abbrev pub leaving_standing : World → Component → Option Standing
leaving_standing w c = option_map (λ (i : Instance). Leaving i.number) (find (has_left w c) w.instances)

abbrev pub turn_of : Instance → Option Standing
turn_of i = option_map (λ callback. Turn i.turn callback i.number) (last_callback i.callbacks)

-- the lowest one that is being told
abbrev pub turn_standing : World → Component → Option Standing
turn_standing w c = option_and_then turn_of (find (λ (i : Instance). is_present w c i && is_outstanding i.callbacks) w.instances)

-- it has a wanted key
abbrev pub has_wanted : World → Component → Bool
has_wanted w c = not (is_empty (keys_for w (consumer_views w) c))

abbrev pub asked_standing : World → Component → Standing
asked_standing w c = if has_wanted w c then Wanted else Unasked (service_in w.open_periods c.number)

-- the first that there is
abbrev pub or_asked : World → Component → Option Standing → Standing
or_asked w c None = asked_standing w c
or_asked w c (Some standing) = standing

abbrev pub satisfied_standing : World → Component → Option Standing
satisfied_standing w c = if is_open w.open_periods c.number then Some (or_asked w c (turn_standing w c)) else leaving_standing w c

-- ---- by the state

-- failed in the state 16, satisfied in the state 4; nothing in the others
abbrev pub standing_in : World → List TurnLine → ℕ → Component → Option Standing
standing_in w lines state c = if state == 16 then failed_standing w lines c else (if state == 4 then satisfied_standing w c else None)

abbrev pub head_by : World → List TurnLine → List ℕ → Component → ComponentHead
head_by w lines satisfied c = record {
  number = c.number;
  name = c.description.name;
  state = state_by w satisfied c;
  standing = standing_in w lines (state_by w satisfied c) c;
}

-- that of the component configuration of a number, where these are the turns: nothing where there is none, or it has ceased
abbrev pub component_head : World → List TurnLine → ℕ → Option ComponentHead
component_head w lines number = option_map (head_by w lines (satisfied_in w)) (existing_of w.components number)
