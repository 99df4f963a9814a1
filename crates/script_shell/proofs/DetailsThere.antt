-- A component configuration of which details are told hasn't ceased.
use Rattle.std.proofs.Common.{◌≡◌, ℕ, List, [], ◌∷◌, refl, cond, Bool, true, false, ◌||◌, Option, Some, None}
use Rattle.std.specs.Prelude.{◌==◌, ◌&&◌, find, option_map}
use Rattle.std.specs.List.{list_any}
use Rattle.component_state.specs.Components.{exists}
use Rattle.component_state.specs.declared.component.Component.{Component}
use Rattle.scr_readers.specs.DetailViews.{component_details, details_by}
use Rattle.scr_readers.specs.declared.component_details.ComponentDetails.{ComponentDetails}
use Rattle.scr_world.specs.Worlds.{satisfied_in}
use Rattle.scr_world.specs.declared.world.World.{World}

-- an item of which something is made was found: so one passes the test
module _ {X Y : Type 0} (p : X → Bool) (f : X → Y) (y : Y) where
  never : Some y ≡ None → ⊥
  never is = cc

  there_by : (b : Bool) (x : X) (xs : List X) → (Some y ≡ option_map f (find p xs) → list_any p xs ≡ true) → Some y ≡ option_map f (cond b (Some x) (find p xs)) → (b || list_any p xs) ≡ true
  there_by true x xs rest is = refl
  there_by false x xs rest is = rest is

  pub found_there : (xs : List X) → Some y ≡ option_map f (find p xs) → list_any p xs ≡ true
  found_there [] is = absurd (never is)
  found_there (x ∷ xs) is = there_by (p x) x xs (found_there xs) is

pub details_there : (w : World) (number : ℕ) (v : ComponentDetails) → Some v ≡ component_details w number → exists w.components number ≡ true
details_there w number v is = found_there (λ (c : Component). (c.number == number) && c.exists) (details_by w (satisfied_in w)) v w.components is
