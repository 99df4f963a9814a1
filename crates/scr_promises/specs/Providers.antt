-- Who provides what instances hold. OSGi Compendium 8, chapter 112, "Bound Services", "Deactivation"; scopes: OSGi Core 8, chapter 5, "Service Scope".
use Rattle.std.specs.Prelude.{◌≡◌, ℕ, true, false, Some}
use Rattle.std.specs.List.{Contains}
use Rattle.callback_orders.specs.Lives.{held_for}
use Rattle.component_dto.specs.declared.description.Reference.{Reference}
use Rattle.prop_map.specs.Words.{has}
use Rattle.scr_promises.specs.Endings.{has_deactivate}
use Rattle.scr_world.specs.Instances.{is_active_instance}
use Rattle.scr_world.specs.Views.{bundle_of_instance, references_in, serves}
use Rattle.scr_world.specs.Worlds.{all_instances, row_known}
use Rattle.scr_world.specs.declared.instance.Instance.{Instance}
use Rattle.scr_world.specs.declared.world.World.{World}
use Rattle.service_registry.specs.declared.row.ServiceRow.{ServiceRow}

-- a service that an instance holds has no component behind it; or an instance serves it for the bundle of the one that holds it, which is active, and was
-- not told of Deactivate
pub data IsProvided (w : World) (i : Instance) (service : ℕ) : Type 0 where
  directly : (row : ServiceRow) → row_known w service ≡ Some row → row.direct ≡ true → IsProvided w i service
  by_instance : (provider : Instance) → Contains w.instances provider → serves w (bundle_of_instance w i) service provider ≡ true → is_active_instance provider ≡ true → has_deactivate provider.callbacks ≡ false → IsProvided w i service

-- so it is with each service that an instance holds, that of the whiteboard too
abbrev pub HaveProviders : World → Type 0
HaveProviders w = (i : Instance) → Contains (all_instances w) i → (r : Reference) → Contains (references_in w i) r → (service : ℕ) → has (held_for r.name i.callbacks) service ≡ true → IsProvided w i service
