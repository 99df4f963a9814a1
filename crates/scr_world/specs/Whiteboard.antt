-- What the platform has of its own: the service of its condition (OSGi Core 8, "Condition Service Specification"), and the whiteboard's instance (OSGi Compendium 8,
-- chapter 140). That they have the number 0 is our own.
use Rattle.std.specs.Prelude.{ℕ, ◌==◌, List, [], ◌∷◌, true, false, Option, Some, None, find, codes}
use Rattle.prop_map.specs.declared.reference_words.Cardinality.TheVariants.{ZeroOrMore}
use Rattle.prop_map.specs.declared.reference_words.Policy.TheVariants.{Dynamic}
use Rattle.prop_map.specs.declared.reference_words.PolicyOption.TheVariants.{Reluctant}
use Rattle.prop_map.specs.declared.value.Value.TheVariants.{Text}
use Rattle.prop_map.specs.Maps.{put}
use Rattle.component_dto.specs.declared.description.Reference.{Reference}
use Rattle.component_dto.specs.declared.description.Description.{Description}
use Rattle.component_dto.specs.declared.description.Scope.TheVariants.{Singleton}
use Rattle.component_dto.specs.declared.description.ConfigurationPolicy.TheVariants.{Optional}
use Rattle.service_registry.specs.declared.row.ServiceRow.{ServiceRow}
use Rattle.service_registry.specs.Services.{with_service_properties}
use Rattle.reference_match.specs.Needs.{condition_interface}
use Rattle.component_state.specs.declared.component.Component.{Component}
use Rattle.component_state.specs.ComponentConfigurations.{component_properties, with_number}
use Rattle.scr_world.specs.declared.instance.Instance.{Instance}

-- the service 0, which says that the platform is there
abbrev pub condition : ServiceRow
condition = record {
  id = 0;
  bundle = 0;
  interfaces = condition_interface ∷ [];
  properties = with_service_properties 0 0 (condition_interface ∷ []) (codes "singleton") (put [] (codes "osgi.condition.id") (Text (codes "true")));
  revision = 0;
  direct = true;
}

-- the services of the platform itself
abbrev pub platform_rows : List ServiceRow
platform_rows = condition ∷ []

-- a dynamic reference to all services of an interface that match a target
abbrev pub reference_to_all : List ℕ → List ℕ → List ℕ → Reference
reference_to_all name interface target = record { name = name; interface_name = interface; cardinality = ZeroOrMore; policy = Dynamic; policy_option = Reluctant; target = Some target; updated = None }

abbrev pub whiteboard_references : List Reference
whiteboard_references =
    reference_to_all (codes "contexts") (codes "org.osgi.service.http.context.ServletContextHelper") (codes "(&(osgi.http.whiteboard.context.name=*)(osgi.http.whiteboard.context.path=*))")
    ∷ reference_to_all (codes "servlets") (codes "javax.servlet.Servlet") (codes "(osgi.http.whiteboard.servlet.pattern=*)") ∷ []

abbrev pub whiteboard_description : Description
whiteboard_description = record {
  name = codes "whiteboard";
  scope = Singleton;
  implementation_class = [];
  default_enabled = true;
  immediate = true;
  service_interfaces = [];
  properties = [];
  references = whiteboard_references;
  modified = None;
  configuration_policy = Optional;
  configuration_pids = [];
  implicit = false;
}

-- the component configuration 0
abbrev pub whiteboard_component : Component
whiteboard_component = record {
  number = 0;
  bundle = 0;
  index = 0;
  pid = None;
  exists = true;
  description = whiteboard_description;
  configured = true;
  properties = with_number 0 (component_properties whiteboard_description []);
  changed = None;
}

-- the instance 0 of an empty journal
abbrev pub new_whiteboard : Instance
new_whiteboard = record {
  number = 0;
  consumer = 0;
  service = 0;
  slot = 0;
  generation = 0;
  drained = false;
  turn = 0;
  origin = record { configuration = 0; created = 0; chosen = [] };
  callbacks = [];
  properties = whiteboard_component.properties;
  properties_taken_at = 0;
  told_revisions = [];
}

-- a component configuration by its number, that of the whiteboard too
abbrev pub component_in : List Component → ℕ → Option Component
component_in cs number = find (λ (c : Component). c.number == number) (whiteboard_component ∷ cs)
