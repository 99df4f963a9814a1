-- How many services an active instance holds at least. OSGi Compendium 8, chapter 112, "Reference Cardinality", "Minimum Cardinality Property".
use Rattle.std.specs.Prelude.{◌≡◌, ◌≤◌, ℕ, List, [], ◌∷◌, length, min, nat_lt, true, if◌then◌else◌}
use Rattle.std.specs.List.{Contains}
use Rattle.callback_orders.specs.Lives.{held_for}
use Rattle.component_dto.specs.declared.description.Reference.{Reference}
use Rattle.component_state.specs.Components.{exists, properties_of}
use Rattle.component_state.specs.Inside.Ready.{are_apart}
use Rattle.prop_map.specs.Words.{has}
use Rattle.reference_match.specs.Needs.{need_of}
use Rattle.scr_laws.specs.Askeds.{HasOneOfEach}
use Rattle.scr_world.specs.Instances.{is_active_instance}
use Rattle.scr_world.specs.Lists.{world_of}
use Rattle.scr_world.specs.Steps.{History}
use Rattle.scr_world.specs.Views.{references_in}
use Rattle.scr_world.specs.declared.instance.Instance.{Instance}
use Rattle.scr_world.specs.declared.world.World.{World}

-- the minimum of a reference, by the properties that a component configuration has in a world
abbrev pub minimum_now : World → ℕ → Reference → ℕ
minimum_now w configuration r = (need_of (properties_of w.components configuration) r).minimum

-- the least that it has been since the entry at a place, while the component configuration existed
abbrev pub least_minimum : ℕ → ℕ → Reference → History → ℕ
least_minimum place configuration r [] = 0
least_minimum place configuration r (entry ∷ past) =
    let now = world_of (entry ∷ past) in
    if nat_lt place (length past)
    then (if exists now.components configuration then min (minimum_now now configuration r) (least_minimum place configuration r past) else least_minimum place configuration r past)
    else minimum_now now configuration r

-- an instance holds so many different services for a reference
pub record HoldsAtLeast (i : Instance) (r : Reference) (count : ℕ) : Type 0 where
  pub services : List ℕ
  pub different : are_apart services ≡ true
  pub held : (s : ℕ) → has services s ≡ true → has (held_for r.name i.callbacks) s ≡ true
  pub enough : count ≤ length services

-- an active instance holds for each of its references the least minimum that this has had since the instance's Create, where the references differ in name
abbrev pub KeepMinimum : History → Type 0
KeepMinimum journal =
    let w = world_of journal in
    (i : Instance) → Contains w.instances i → is_active_instance i ≡ true → HasOneOfEach (λ (r : Reference). r.name) (references_in w i) → (r : Reference) → Contains (references_in w i) r
    → HoldsAtLeast i r (least_minimum i.origin.created i.origin.configuration r journal)
