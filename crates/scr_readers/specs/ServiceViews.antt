-- What is told of a service. OSGi Core 8, chapter 5, "Service Registry", "Getting Services"; OSGi Compendium 8, chapter
-- 112, "Bound Services". Numbers and orders are our own.
use Rattle.std.specs.Prelude.{ℕ, ◌==◌, List, map, Bool, Option, filter, find, flat_map, option_map}
use Rattle.callback_orders.specs.Lives.{held_for}
use Rattle.component_dto.specs.declared.description.Reference.{Reference}
use Rattle.component_state.specs.declared.open_period.OpenPeriod.{OpenPeriod}
use Rattle.prop_map.specs.Words.{has}
use Rattle.service_registry.specs.Registries.{row_of}
use Rattle.service_registry.specs.declared.row.ServiceRow.{ServiceRow}
use Rattle.scr_world.specs.declared.instance.Instance.{Instance}
use Rattle.scr_world.specs.declared.world.World.{World}
use Rattle.scr_world.specs.Readers.{listed}
use Rattle.scr_world.specs.Views.{references_in}
use Rattle.scr_world.specs.Worlds.{all_instances}
use Rattle.scr_readers.specs.declared.service_view.ServiceHolder.{ServiceHolder}
use Rattle.scr_readers.specs.declared.service_view.ServiceUse.{ServiceUse}
use Rattle.scr_readers.specs.declared.service_view.ServiceView.{ServiceView}
use Rattle.use_counts.specs.Uses.{bundles_using, use_count}

-- the service of a number: that of the platform isn't listed
abbrev pub listed_service : World → ℕ → Option ServiceRow
listed_service w service = row_of (listed w) service

-- the component configuration whose service it is: a direct one has none
abbrev pub provider : World → ℕ → Option ℕ
provider w service = option_map (λ (p : OpenPeriod). p.configuration) (find (λ (p : OpenPeriod). p.row.id == service) w.open_periods)

-- the bundles that use it, by number, each with its use count
abbrev pub service_uses : World → ℕ → List ServiceUse
service_uses w service = map (λ b. record { bundle = b; count = use_count b service w.uses }) (bundles_using service w.uses)

-- an instance holds it for a reference
abbrev pub holds_for : ℕ → Instance → Reference → Bool
holds_for service i r = has (held_for r.name i.callbacks) service

abbrev pub holder_by : Instance → Reference → ServiceHolder
holder_by i r = record { configuration = i.origin.configuration; instance = i.number; reference = r.name }

-- the references of an instance for which it holds it, in the order of its description
abbrev pub holders_in : World → ℕ → Instance → List ServiceHolder
holders_in w service i = map (holder_by i) (filter (holds_for service i) (references_in w i))

-- the living instances that hold it, by number, the whiteboard's among them, which has the number 0
abbrev pub service_holders : World → ℕ → List ServiceHolder
service_holders w service = flat_map (holders_in w service) (all_instances w)

abbrev pub service_view_by : World → ServiceRow → ServiceView
service_view_by w r = record { row = r; provider = provider w r.id; uses = service_uses w r.id; holders = service_holders w r.id }

-- what is told of the service of a number: nothing where none is registered, or it is that of the platform
abbrev pub service_view : World → ℕ → Option ServiceView
service_view w service = option_map (service_view_by w) (listed_service w service)
