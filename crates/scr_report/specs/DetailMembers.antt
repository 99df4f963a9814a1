-- The members of details, put one after another, each where its key belongs in byte order (`put`). Our own form.
use Rattle.std.specs.Prelude.{ℕ, List, codes}
use Rattle.component_dto.specs.declared.description.Description.{Description}
use Rattle.component_state.specs.Rows.{scope_text}
use Rattle.scr_readers.specs.declared.component_details.ComponentDetails.{ComponentDetails}
use Rattle.scr_readers.specs.declared.component_details.ReferenceDetails.{ReferenceDetails}
use Rattle.scr_readers.specs.declared.view.ReferenceState.{ReferenceState}
use Rattle.scr_report.specs.DetailData.{cardinality_text, policy_option_text, policy_text, satisfied_details, texts, unsatisfied_details}
use Rattle.scr_report.specs.ReportData.{number_or_null, numbers, property_members, text_or_null, whole_number}
use Rattle.serde_json.specs.Data.{Members, boolean, object, put, string}

-- what a reference asks for
abbrev pub with_words : ReferenceDetails → Members → Members
with_words r ms =
    put (codes "policyOption") (string (policy_option_text r.policy_option)) (
    put (codes "policy") (string (policy_text r.policy)) (
    put (codes "minimum") (whole_number r.minimum) (
    put (codes "interfaceName") (string r.interface_name) (
    put (codes "cardinality") (string (cardinality_text r.cardinality)) ms))))

-- a reference's name, its target, what it can take and what is bound to it
abbrev pub with_services : ReferenceState → Members → Members
with_services r ms =
    put (codes "targetServices") (numbers r.targets) (
    put (codes "target") (text_or_null r.target) (
    put (codes "name") (string r.name) (
    put (codes "boundServices") (numbers r.bound) ms)))

abbrev pub with_reference : ReferenceDetails → Members → Members
with_reference r ms = with_services r.state (with_words r ms)

-- what a description says
abbrev pub with_description : Description → Members → Members
with_description d ms =
    put (codes "serviceInterfaces") (texts d.service_interfaces) (
    put (codes "scope") (string (scope_text d.scope)) (
    put (codes "name") (string d.name) (
    put (codes "implementationClass") (string d.implementation_class) (
    put (codes "immediate") (boolean d.immediate) (
    put (codes "configurationPids") (texts d.configuration_pids) ms)))))

-- how it stands with the component configuration of a number
abbrev pub with_state : ℕ → ComponentDetails → Members → Members
with_state id v ms =
    put (codes "state") (whole_number v.state) (
    put (codes "service") (number_or_null v.service) (
    put (codes "properties") (object (property_members v.properties)) (
    put (codes "id") (whole_number id) (
    put (codes "failure") (number_or_null v.failure) (
    put (codes "factoryConfiguration") (text_or_null v.factory_configuration) (
    put (codes "bundle") (whole_number v.bundle) ms))))))

abbrev pub with_references : List ReferenceDetails → Members → Members
with_references rs ms = put (codes "unsatisfiedReferences") (unsatisfied_details rs) (put (codes "satisfiedReferences") (satisfied_details rs) ms)

abbrev pub with_details : ℕ → ComponentDetails → Members → Members
with_details id v ms = with_references v.references (with_state id v (with_description v.description ms))
