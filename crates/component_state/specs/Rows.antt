-- The services of component configurations. OSGi Compendium 8, chapter 112, "Service Properties"; OSGi Core 8, chapter 5, "Service Properties", "Service Scope".
use Rattle.std.specs.Prelude.{ℕ, ◌+◌, ◌==◌, List, [], map, false, not, filter, find, codes, if◌then◌else◌}
use Rattle.std.specs.Option.{option_map_or}
use Rattle.component_dto.specs.declared.description.Scope.{Scope}
use Rattle.component_dto.specs.declared.description.Scope.TheVariants.{Singleton, Bundle, Prototype}
use Rattle.prop_map.specs.declared.properties.Property.{Property}
use Rattle.prop_map.specs.Sameness.{same_properties}
use Rattle.service_registry.specs.declared.row.ServiceRow.{ServiceRow}
use Rattle.service_registry.specs.Services.{with_service_properties, published}
use Rattle.component_state.specs.declared.component.Component.{Component}
use Rattle.component_state.specs.declared.open_period.OpenPeriod.{OpenPeriod}
use Rattle.component_state.specs.Components.{component_of}

abbrev pub scope_text : Scope → List ℕ
scope_text Singleton = codes "singleton"
scope_text Bundle = codes "bundle"
scope_text Prototype = codes "prototype"

-- what a component configuration publishes under a service's number
abbrev pub published_by : Component → ℕ → List Property
published_by c service = with_service_properties service c.bundle c.description.service_interfaces (scope_text c.description.scope) (published c.properties)

-- the service of a component configuration
abbrev pub row_by : Component → ℕ → ℕ → ServiceRow
row_by c service revision = record { id = service; bundle = c.bundle; interfaces = c.description.service_interfaces; properties = published_by c service; revision = revision; direct = false }

abbrev pub no_row : ℕ → ℕ → ServiceRow
no_row service revision = record { id = service; bundle = 0; interfaces = []; properties = []; revision = revision; direct = false }

abbrev pub row_in : List Component → ℕ → ℕ → ℕ → ServiceRow
row_in cs configuration service revision = option_map_or (λ c. row_by c service revision) (component_of cs configuration) (no_row service revision)

-- the services of open periods: a component without interfaces registers none
abbrev pub rows_of : List OpenPeriod → List ServiceRow
rows_of open_now = filter (λ (r : ServiceRow). not (r.id == 0)) (map (λ (p : OpenPeriod). p.row) open_now)

-- the number of the service of an open component configuration, 0 where it isn't open or has none
abbrev pub service_in : List OpenPeriod → ℕ → ℕ
service_in open_now configuration = option_map_or (λ (p : OpenPeriod). p.row.id) (find (λ (p : OpenPeriod). p.configuration == configuration) open_now) 0

-- a service after the properties of its component configuration may have changed
abbrev pub row_with_properties : ServiceRow → List Property → ServiceRow
row_with_properties r properties = if same_properties properties r.properties then r else record r { properties = properties; revision = r.revision + 1 }

abbrev pub period_with_properties : OpenPeriod → Component → OpenPeriod
period_with_properties p c = record p { row = row_with_properties p.row (published_by c p.row.id) }

-- an open period with the properties that its component configuration has now
abbrev pub with_present_properties : List Component → OpenPeriod → OpenPeriod
with_present_properties cs p = option_map_or (period_with_properties p) (component_of cs p.configuration) p
