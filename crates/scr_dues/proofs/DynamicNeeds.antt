-- What a dynamic reference of an instance desires, by what it needs.
use Rattle.std.proofs.Common.{◌≡◌, ◌∙◌, ap, List, [], ℕ}
use Rattle.callback_orders.specs.Lives.{held_for}
use Rattle.component_dto.specs.declared.description.Reference.{Reference}
use Rattle.component_state.specs.Reasons.{choice_at}
use Rattle.prop_map.specs.declared.reference_words.Policy.TheVariants.{Dynamic}
use Rattle.reference_match.specs.declared.need.Need.{Need}
use Rattle.reference_match.specs.Needs.{need_of}
use Rattle.reference_match.specs.Targets.{desired, targets}
use Rattle.scr_world.specs.declared.instance.Instance.{Instance}
use Rattle.scr_world.specs.declared.world.World.{World}
use Rattle.scr_world.specs.Views.{desired_services, properties_in}
use Rattle.scr_world.specs.Worlds.{registered_services, sorted}
use Rattle.scr_dues.proofs.Meeting.{dynamic_desires}

-- the services that meet its need, by those that it holds: no choice is looked at
pub desired_of_need : (w : World) (i : Instance) (place : ℕ) (r : Reference) (n : Need) (held : List ℕ) → n ≡ need_of (properties_in w i) r → r.policy ≡ Dynamic → held ≡ held_for r.name i.callbacks
    → desired n [] held (targets n (registered_services w)) ≡ desired_services w i place r
desired_of_need w i place r n held same policy is =
    dynamic_desires n [] (sorted w (choice_at i.origin.chosen place)) held (targets n (registered_services w)) (ap (λ (x : Need). x.policy) same ∙ policy)
    ∙ (λ j. desired (same j) (sorted w (choice_at i.origin.chosen place)) (is j) (targets (same j) (registered_services w)))
