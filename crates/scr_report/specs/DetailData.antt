-- All that is told of a component configuration, as JSON. Its members are those of OSGi Compendium 8, chapter 112,
-- "ComponentConfigurationDTO", "ComponentDescriptionDTO" and "ReferenceDTO", with the words of a component's document; that
-- services and failures are told by their numbers, and a factory's configuration by its PID, is our own.
use Rattle.std.specs.Prelude.{ℕ, List, Option, codes, filter, map, not, option_map}
use Rattle.serde_json.specs.Data.{Data, boolean, string, object, no_members, member}
use Rattle.component_dto.specs.declared.description.Description.{Description}
use Rattle.component_state.specs.Rows.{scope_text}
use Rattle.prop_map.specs.declared.reference_words.Cardinality.{Cardinality}
use Rattle.prop_map.specs.declared.reference_words.Cardinality.TheVariants.{ZeroOrOne, One, ZeroOrMore, OneOrMore}
use Rattle.prop_map.specs.declared.reference_words.Policy.{Policy}
use Rattle.prop_map.specs.declared.reference_words.Policy.TheVariants.{Static, Dynamic}
use Rattle.prop_map.specs.declared.reference_words.PolicyOption.{PolicyOption}
use Rattle.prop_map.specs.declared.reference_words.PolicyOption.TheVariants.{Reluctant, Greedy}
use Rattle.scr_readers.specs.DetailViews.{component_details}
use Rattle.scr_readers.specs.declared.component_details.ComponentDetails.{ComponentDetails}
use Rattle.scr_readers.specs.declared.component_details.ReferenceDetails.{ReferenceDetails}
use Rattle.scr_report.specs.ReportData.{list_of, number_or_null, numbers, property_members, text_or_null, whole_number}
use Rattle.scr_world.specs.declared.world.World.{World}

abbrev pub cardinality_text : Cardinality → List ℕ
cardinality_text ZeroOrOne = codes "0..1"
cardinality_text One = codes "1..1"
cardinality_text ZeroOrMore = codes "0..n"
cardinality_text OneOrMore = codes "1..n"

abbrev pub policy_text : Policy → List ℕ
policy_text Static = codes "static"
policy_text Dynamic = codes "dynamic"

abbrev pub policy_option_text : PolicyOption → List ℕ
policy_option_text Reluctant = codes "reluctant"
policy_option_text Greedy = codes "greedy"

abbrev pub texts : List (List ℕ) → Data
texts ts = list_of (map string ts)

-- a reference with what is in effect for it, the services that it can take and those that are bound to it
abbrev pub reference_data : ReferenceDetails → Data
reference_data r = object (
    member (codes "boundServices") (numbers r.state.bound) (
    member (codes "cardinality") (string (cardinality_text r.cardinality)) (
    member (codes "interfaceName") (string r.interface_name) (
    member (codes "minimum") (whole_number r.minimum) (
    member (codes "name") (string r.state.name) (
    member (codes "policy") (string (policy_text r.policy)) (
    member (codes "policyOption") (string (policy_option_text r.policy_option)) (
    member (codes "target") (text_or_null r.state.target) (
    member (codes "targetServices") (numbers r.state.targets) no_members)))))))))

abbrev pub satisfied_details : List ReferenceDetails → Data
satisfied_details rs = list_of (map reference_data (filter (λ (r : ReferenceDetails). r.state.satisfied) rs))

abbrev pub unsatisfied_details : List ReferenceDetails → Data
unsatisfied_details rs = list_of (map reference_data (filter (λ (r : ReferenceDetails). not r.state.satisfied) rs))

-- the details of the component configuration of a number
abbrev pub details_data : ℕ → ComponentDetails → Data
details_data id v = let d = v.description in object (
    member (codes "bundle") (whole_number v.bundle) (
    member (codes "configurationPids") (texts d.configuration_pids) (
    member (codes "factoryConfiguration") (text_or_null v.factory_configuration) (
    member (codes "failure") (number_or_null v.failure) (
    member (codes "id") (whole_number id) (
    member (codes "immediate") (boolean d.immediate) (
    member (codes "implementationClass") (string d.implementation_class) (
    member (codes "name") (string d.name) (
    member (codes "properties") (object (property_members v.properties)) (
    member (codes "satisfiedReferences") (satisfied_details v.references) (
    member (codes "scope") (string (scope_text d.scope)) (
    member (codes "service") (number_or_null v.service) (
    member (codes "serviceInterfaces") (texts d.service_interfaces) (
    member (codes "state") (whole_number v.state) (
    member (codes "unsatisfiedReferences") (unsatisfied_details v.references) no_members)))))))))))))))

-- those of the component configuration of a number: none where there is none, or it has ceased
abbrev pub details_in : World → ℕ → Option Data
details_in w id = option_map (details_data id) (component_details w id)
