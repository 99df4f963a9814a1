-- Component configurations in a listing, where the satisfied ones are told in another order.
use Rattle.std.proofs.Common.{◌≡◌, ap, ◌∙◌, refl, ℕ, List, [], ◌∷◌, cond}
use Rattle.std.specs.Prelude.{◌&&◌, map, not}
use Rattle.component_state.specs.Components.{lacks_configuration}
use Rattle.component_state.specs.Periods.{is_open}
use Rattle.component_state.specs.declared.component.Component.{Component}
use Rattle.prop_map.specs.Words.{has}
use Rattle.scr_readers.specs.ListedComponents.{listed_by, waits}
use Rattle.scr_readers.specs.declared.listed_component.ListedComponent.{ListedComponent}
use Rattle.scr_world.specs.Readers.{has_active, state_by}
use Rattle.scr_world.specs.declared.world.World.{World}

module _ (w : World) (these those : List ℕ) (same : (number : ℕ) → has these number ≡ has those number) where
  same_state : (c : Component) → state_by w these c ≡ state_by w those c
  same_state c =
      ap (λ b. cond (lacks_configuration c) 1 (cond (not b) 2 (cond (has w.failed c.number) 16 (cond (is_open w.open_periods c.number && has_active w.instances c.number) 8 4)))) (same c.number)

  same_one : (c : Component) → listed_by w these c ≡ listed_by w those c
  same_one c =
      ap (λ state. let line : ListedComponent = record { number = c.number; bundle = c.bundle; state = state; name = c.description.name; interfaces = c.description.service_interfaces; waits = waits w c } in line) (same_state c)

  pub same_listed : (cs : List Component) → map (listed_by w these) cs ≡ map (listed_by w those) cs
  same_listed [] = refl
  same_listed (c ∷ cs) = ap (λ l. l ∷ map (listed_by w these) cs) (same_one c) ∙ ap (λ l. listed_by w those c ∷ l) (same_listed cs)
