-- What instances hold. OSGi Compendium 8, chapter 112, "Bound Services", "References to Services".
use Rattle.std.specs.Prelude.{◌≡◌, ℕ, List, true, Some}
use Rattle.std.specs.List.{Contains}
use Rattle.callback_orders.specs.Lives.{held_for}
use Rattle.component_dto.specs.declared.description.Reference.{Reference}
use Rattle.prop_map.specs.Words.{has}
use Rattle.scr_laws.specs.Askeds.{HasOneOfEach}
use Rattle.scr_world.specs.Views.{references_in}
use Rattle.scr_world.specs.Worlds.{all_instances, row_known}
use Rattle.scr_world.specs.declared.instance.Instance.{Instance}
use Rattle.scr_world.specs.declared.world.World.{World}
use Rattle.service_registry.specs.declared.row.ServiceRow.{ServiceRow}
use Rattle.service_registry.specs.Services.{has_interface}

-- a service is known, as it is or as it was when it was unregistered, and has an interface
pub record IsKnownWith (w : World) (service : ℕ) (interface : List ℕ) : Type 0 where
  pub row : ServiceRow
  pub known : row_known w service ≡ Some row
  pub has_it : has_interface interface row ≡ true

-- it has the interface of a reference of this name
pub record IsKnownFor (w : World) (i : Instance) (name : List ℕ) (service : ℕ) : Type 0 where
  pub reference : Reference
  pub there : Contains (references_in w i) reference
  pub named : reference.name ≡ name
  pub known : IsKnownWith w service reference.interface_name

-- each service that an instance holds, that of the whiteboard too, is known, and has the interface of a reference under whose name it is held: where the
-- instance's references differ in name, of that reference
pub record HoldKnown (w : World) : Type 0 where
  pub by_name : (i : Instance) → Contains (all_instances w) i → (r : Reference) → Contains (references_in w i) r → (service : ℕ) → has (held_for r.name i.callbacks) service ≡ true → IsKnownFor w i r.name service
  pub by_reference : (i : Instance) → Contains (all_instances w) i → HasOneOfEach (λ (r : Reference). r.name) (references_in w i) → (r : Reference) → Contains (references_in w i) r → (service : ℕ) → has (held_for r.name i.callbacks) service ≡ true
      → IsKnownWith w service r.interface_name
