-- What instances desire, whatever the reference. Our own.
use Rattle.std.specs.Prelude.{ℕ, ◌==◌, ◌&&◌, List, ◌∷◌, map, Bool, false, flat_map}
use Rattle.std.specs.List.{list_any}
use Rattle.component_dto.specs.declared.description.Reference.{Reference}
use Rattle.component_state.specs.declared.component.Component.{Component}
use Rattle.component_state.specs.Components.{consumer_for}
use Rattle.prop_map.specs.Words.{has, with_places}
use Rattle.scr_world.specs.declared.instance.Instance.{Instance}
use Rattle.scr_world.specs.declared.world.World.{World}
use Rattle.scr_world.specs.Views.{bundle_of_instance, desired_unless_ending, ends, references_in}
use Rattle.scr_dues.specs.declared.desiring.Desiring.{Desiring}

-- what an instance that is ending, or isn't, desires for these references, each with its index
abbrev pub desired_for_all : Bool → World → Instance → List (ℕ × Reference) → List ℕ
desired_for_all ending w i rs = flat_map (λ (r : ℕ × Reference). desired_unless_ending ending w i r.0 r.1) rs

-- an instance's, with the bundle that it is of
unfoldable pub desiring_of : World → Instance → Desiring
desiring_of w i = record { bundle = bundle_of_instance w i; services = desired_for_all (ends w i) w i (with_places 0 (references_in w i)) }

unfoldable pub desiring_whiteboard : World → Desiring
desiring_whiteboard w = record { bundle = 0; services = desired_for_all false w w.whiteboard (with_places 0 (references_in w w.whiteboard)) }

-- those of all instances
unfoldable pub all_desiring : World → List Desiring
all_desiring w = desiring_whiteboard w ∷ map (desiring_of w) w.instances

-- one of these desires the service of a component configuration for a consumer
abbrev pub is_desired_of : Component → ℕ → ℕ → Desiring → Bool
is_desired_of c service consumer d = (consumer_for c d.bundle == consumer) && has d.services service

abbrev pub are_desiring : List Desiring → Component → ℕ → ℕ → Bool
are_desiring ds c service consumer = list_any (is_desired_of c service consumer) ds
