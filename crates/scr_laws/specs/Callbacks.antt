-- The callbacks of an instance. OSGi Compendium 8, chapter 112, "Component Life Cycle"; turns are our own.
use Rattle.std.specs.Prelude.{◌≡◌, ℕ, ◌==◌, List, map, filter, true}
use Rattle.std.specs.List.{Contains}
use Rattle.callback_orders.specs.declared.word.Called.{Called}
use Rattle.component_state.specs.Inside.Ready.{are_apart}
use Rattle.scr_world.specs.Lists.{world_of}
use Rattle.scr_world.specs.Steps.{History}
use Rattle.scr_world.specs.TurnLines.{turn_lines}
use Rattle.scr_world.specs.Worlds.{all_instances}
use Rattle.scr_world.specs.declared.instance.Instance.{Instance}
use Rattle.scr_world.specs.declared.lines.TurnLine.{TurnLine}
use Rattle.scr_world.specs.declared.world.World.{World}

abbrev pub called_in : TurnLine → Called
called_in line = record { callback = line.callback; outcome = line.outcome }

-- the turns of a journal that told an instance, in order, each with its outcome
abbrev pub callbacks_told : ℕ → List TurnLine → List Called
callbacks_told number lines = map called_in (filter (λ (line : TurnLine). line.instance == number) lines)

-- the callbacks of each living instance, that of the whiteboard too, are those turns
abbrev pub HaveTheirTurns : History → Type 0
HaveTheirTurns journal = (i : Instance) → Contains (all_instances (world_of journal)) i → i.callbacks ≡ callbacks_told i.number (turn_lines journal)

-- living instances have numbers of their own, that of the whiteboard too, and no two were told last by one turn
pub record AreApart (w : World) : Type 0 where
  pub numbers : are_apart (map (λ (i : Instance). i.number) (all_instances w)) ≡ true
  pub turns : are_apart (map (λ (i : Instance). i.turn) w.instances) ≡ true
