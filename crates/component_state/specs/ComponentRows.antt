-- The component configurations that there are to be, as rows. Our own.
use Rattle.std.specs.Prelude.{List, map}
use Rattle.config_admin.specs.declared.configuration.Configuration.{Configuration}
use Rattle.component_state.specs.declared.component.Component.{Component}
use Rattle.component_state.specs.declared.rows.BundleRow.{BundleRow}
use Rattle.component_state.specs.declared.rows.ComponentRow.{ComponentRow}
use Rattle.component_state.specs.ComponentConfigurations.{component_configurations}

-- a component configuration without its number and its description
abbrev pub component_row : Component → ComponentRow
component_row c = record { bundle = c.bundle; description = c.index; pid = c.pid; properties = c.properties }

abbrev pub configurations_of : List BundleRow → List Configuration → List ComponentRow
configurations_of bundles cs = map component_row (component_configurations bundles cs)
