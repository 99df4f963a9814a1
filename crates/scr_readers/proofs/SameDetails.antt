-- All that is told of a component configuration, where the satisfied ones are told in another order.
use Rattle.std.proofs.Common.{◌≡◌, ap, refl, ℕ, List, cond, Option, Some, None}
use Rattle.std.specs.Prelude.{◌&&◌, not, option_map}
use Rattle.component_state.specs.Components.{lacks_configuration}
use Rattle.component_state.specs.Periods.{is_open}
use Rattle.component_state.specs.declared.component.Component.{Component}
use Rattle.prop_map.specs.Words.{has}
use Rattle.scr_readers.specs.DetailViews.{details_by, reference_details, service_of}
use Rattle.scr_readers.specs.ComponentViews.{failure_in}
use Rattle.scr_readers.specs.declared.component_details.ComponentDetails.{ComponentDetails}
use Rattle.scr_world.specs.Readers.{has_active, state_by}
use Rattle.scr_world.specs.declared.world.World.{World}

module _ (w : World) (these those : List ℕ) (same : (number : ℕ) → has these number ≡ has those number) where
  same_state : (c : Component) → state_by w these c ≡ state_by w those c
  same_state c =
      ap (λ b. cond (lacks_configuration c) 1 (cond (not b) 2 (cond (has w.failed c.number) 16 (cond (is_open w.open_periods c.number && has_active w.instances c.number) 8 4)))) (same c.number)

  same_one : (c : Component) → details_by w these c ≡ details_by w those c
  same_one c =
      ap (λ state. let details : ComponentDetails = record { bundle = c.bundle; description = c.description; factory_configuration = c.pid; properties = c.properties; state = state; failure = failure_in w state c.number; service = service_of w.open_periods c.number; references = reference_details w c } in details) (same_state c)

  pub same_details : (c : Option Component) → option_map (details_by w these) c ≡ option_map (details_by w those) c
  same_details None = refl
  same_details (Some c) = ap Some (same_one c)
