-- A turn that has its work is under way.
use Rattle.std.proofs.Common.{◌≡◌, ℕ, refl, Option, Some, None, true}
use Rattle.std.specs.Prelude.{find, option_and_then, option_map}
use Rattle.std.specs.List.{list_any}
use Rattle.component_state.proofs.Apart.{any_from}
use Rattle.scr_laws.proofs.Listed.{found_was}
use Rattle.scr_world.specs.Instances.{has_turn, last_callback}
use Rattle.scr_world.specs.Legal.{is_under_way}
use Rattle.scr_world.specs.TurnSteps.{work_for, work_under_way}
use Rattle.scr_world.specs.Worlds.{all_instances}
use Rattle.scr_world.specs.declared.instance.Instance.{Instance}
use Rattle.scr_world.specs.declared.world.World.{World}
use Rattle.turn_work.specs.declared.work.TurnWork.{TurnWork}

pub work_is_under_way : (w : World) (turn : ℕ) (work : TurnWork) → work_under_way w turn ≡ Some work → is_under_way w turn ≡ true
work_is_under_way w turn work is = go (find (has_turn turn) (all_instances w)) refl is
  where
    go : (o : Option Instance) → find (has_turn turn) (all_instances w) ≡ o → option_and_then (λ (i : Instance). option_map (work_for w turn i) (last_callback i.callbacks)) o ≡ Some work → list_any (has_turn turn) (all_instances w) ≡ true
    go None found told = cc
    go (Some i) found told = let there = found_was (has_turn turn) (all_instances w) i found in any_from (has_turn turn) (all_instances w) i there.0 there.1
