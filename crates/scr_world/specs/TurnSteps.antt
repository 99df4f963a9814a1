-- The work of a turn. OSGi Compendium 8, chapter 112, "Component Life Cycle" and "Component Properties"; turns are our own.
use Rattle.std.specs.Prelude.{ℕ, List, [], Bool, true, false, Option, find, option_map, option_and_then}
use Rattle.std.specs.Option.{option_map_or}
use Rattle.callback_orders.specs.declared.callback.Callback.{Callback}
use Rattle.component_state.specs.declared.component.Component.{Component}
use Rattle.turn_work.specs.declared.work.TurnWork.{TurnWork}
use Rattle.scr_world.specs.declared.step.Step.{Step}
use Rattle.scr_world.specs.declared.step.Step.TheVariants.{Command as Commanded, Begin, End, Drained, Got, Released}
use Rattle.scr_world.specs.declared.instance.Instance.{Instance}
use Rattle.scr_world.specs.Instances.{has_turn, last_callback}
use Rattle.scr_world.specs.Whiteboard.{component_in}
use Rattle.scr_world.specs.declared.world.World.{World}
use Rattle.scr_world.specs.Worlds.{all_instances}

abbrev pub is_turn_step : Step → Bool
is_turn_step (Commanded command) = false
is_turn_step (Begin turn instance configuration consumer callback chosen) = true
is_turn_step (End turn outcome) = true
is_turn_step (Drained instance) = true
is_turn_step (Got bundle service) = true
is_turn_step (Released place) = true

abbrev pub name_in : World → ℕ → List ℕ
name_in w configuration = option_map_or (λ (c : Component). c.description.name) (component_in w.components configuration) []

abbrev pub class_in : World → ℕ → List ℕ
class_in w configuration = option_map_or (λ (c : Component). c.description.implementation_class) (component_in w.components configuration) []

-- the work of a turn by which an instance is told of a callback, with the properties that it took
abbrev pub work_for : World → ℕ → Instance → Callback → TurnWork
work_for w turn i callback = record {
  number = turn;
  callback = callback;
  instance = i.number;
  name = name_in w i.origin.configuration;
  site = record { class = class_in w i.origin.configuration; properties = i.properties };
}

-- the work of a turn that is under way; none where no such turn is
abbrev pub work_under_way : World → ℕ → Option TurnWork
work_under_way w turn = option_and_then (λ (i : Instance). option_map (work_for w turn i) (last_callback i.callbacks)) (find (has_turn turn) (all_instances w))
