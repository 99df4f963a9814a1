-- A quiet platform, and a right one. Our own; what a right one says is OSGi Compendium 8, chapter 112.
use Rattle.std.specs.Prelude.{◌≡◌, ℕ, ◌&&◌, ◌||◌, [], Bool, true, false, not, None}
use Rattle.std.specs.List.{Contains, list_any, list_all}
use Rattle.callback_orders.specs.Lives.{held_for}
use Rattle.callback_orders.specs.Sequences.{is_outstanding}
use Rattle.component_dto.specs.declared.description.Reference.{Reference}
use Rattle.component_state.specs.Periods.{is_open}
use Rattle.component_state.specs.Scratch.{open_from_scratch}
use Rattle.prop_map.specs.Words.{has, same_set, with_places}
use Rattle.reference_match.specs.Needs.{need_of}
use Rattle.reference_match.specs.Targets.{chosen, is_greedy}
use Rattle.scr_world.specs.declared.instance.Instance.{Instance}
use Rattle.scr_world.specs.Dues.{due_in}
use Rattle.scr_world.specs.Instances.{is_active_instance}
use Rattle.scr_world.specs.Legal.{awaits_drain}
use Rattle.scr_world.specs.Levels.{levels_of}
use Rattle.scr_world.specs.Tables.{descriptions_of}
use Rattle.scr_world.specs.Views.{desired_unless_ending, ends, properties_in, references_in, targets_for}
use Rattle.scr_world.specs.Wanted.{missing}
use Rattle.scr_world.specs.declared.world.World.{World}
use Rattle.scr_world.specs.Worlds.{all_instances, direct_services}

-- nothing is due, no turn is under way, and no gate that is shut awaits its drain
pub record IsQuiet (w : World) : Type 0 where
  pub nothing_due : due_in w ≡ None
  pub ended : list_any (λ (i : Instance). is_outstanding i.callbacks) (all_instances w) ≡ false
  pub drained : list_any (awaits_drain w) w.instances ≡ false

-- what an instance holds for the reference at an index is what it desires, and for a greedy one what it would choose now
abbrev pub holds_right : Bool → World → Instance → (ℕ × Reference) → Bool
holds_right ending w i r = same_set (held_for r.1.name i.callbacks) (desired_unless_ending ending w i r.0 r.1)
    && (not (is_greedy r.1.policy_option) || same_set (held_for r.1.name i.callbacks) (chosen (need_of (properties_in w i) r.1) (targets_for w i r.1)))

-- just the satisfied component configurations that haven't failed are open, from scratch; every instance is active and not ending; every wanted
-- key has its instance; and every instance, that of the whiteboard too, holds what it is to hold
pub record IsRight (w : World) : Type 0 where
  pub open_ones : (number : ℕ) → is_open w.open_periods number ≡ has (open_from_scratch (descriptions_of w.documents) (levels_of (descriptions_of w.documents)) (direct_services w) w.open_periods w.components w.failed) number
  pub active : list_all (λ (i : Instance). is_active_instance i && not (ends w i)) w.instances ≡ true
  pub none_missing : missing w ≡ []
  pub held : (i : Instance) → Contains w.instances i → list_all (holds_right (ends w i) w i) (with_places 0 (references_in w i)) ≡ true
  pub whiteboard : list_all (holds_right false w w.whiteboard) (with_places 0 (references_in w w.whiteboard)) ≡ true
