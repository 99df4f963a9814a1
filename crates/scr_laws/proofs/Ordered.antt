-- What the instances of a world are told so far is in order, and speaks of their references. So it is in the world of every legal journal.
use Rattle.std.proofs.Common.{◌≡◌, ◌<◌, ℕ, length, List, true}
use Rattle.std.specs.Prelude.{map}
use Rattle.std.specs.List.{Contains}
use Rattle.callback_orders.specs.declared.word.Called.{Called}
use Rattle.callback_orders.specs.Lives.{is_living, speaks_of}
use Rattle.callback_orders.specs.Sequences.{is_sequence, is_whiteboard_sequence}
use Rattle.component_state.specs.declared.component.Component.{Component}
use Rattle.component_state.specs.Inside.Ready.{are_apart}
use Rattle.scr_world.specs.Dues.{names_of}
use Rattle.scr_world.specs.Worlds.{all_instances}
use Rattle.scr_world.specs.declared.instance.Instance.{Instance}
use Rattle.scr_world.specs.declared.world.World.{World}

-- there are callbacks, they are in order, and they speak of these references
pub record InOrder (names : List (List ℕ)) (calls : List Called) : Type 0 where
  pub some : 0 < length calls
  pub order : is_sequence calls ≡ true
  pub spoken : speaks_of names calls ≡ true

-- the instance of the whiteboard
pub record IsBoard (w : World) : Type 0 where
  pub number : w.whiteboard.number ≡ 0
  pub configuration : w.whiteboard.origin.configuration ≡ 0
  pub order : is_whiteboard_sequence w.whiteboard.callbacks ≡ true
  pub spoken : speaks_of (names_of w w.whiteboard) w.whiteboard.callbacks ≡ true

pub record AreOrdered (w : World) : Type 0 where
  pub each : (i : Instance) → Contains w.instances i → InOrder (names_of w i) i.callbacks
  pub living : (i : Instance) → Contains w.instances i → is_living i.callbacks ≡ true
  pub board : IsBoard w
  pub apart : are_apart (map (λ (i : Instance). i.number) (all_instances w)) ≡ true
  pub positive : (c : Component) → Contains w.components c → 0 < c.number
