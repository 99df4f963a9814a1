-- Details have no float, so that their text is determined.
use Rattle.std.proofs.Common.{◌≡◌, refl, ℕ, List, map, false}
use Rattle.std.specs.Prelude.{filter, not}
use Rattle.scr_readers.specs.declared.component_details.ComponentDetails.{ComponentDetails}
use Rattle.scr_readers.specs.declared.component_details.ReferenceDetails.{ReferenceDetails}
use Rattle.serde_json.specs.Data.{object, string}
use Rattle.serde_json.specs.Written.{has_float, members_have_float}
use Rattle.scr_report.proofs.NoFloats.{list_without, neither, number_without, numbers_without, properties_without, text_without}
use Rattle.scr_report.specs.DetailData.{details_data, reference_data, satisfied_details, texts, unsatisfied_details}
use Rattle.scr_report.specs.ReportData.{number_or_null, numbers, property_members, text_or_null}

texts_without : (ts : List (List ℕ)) → has_float (texts ts) ≡ false
texts_without ts = list_without string (λ t. refl) ts

reference_without : (r : ReferenceDetails) → has_float (reference_data r) ≡ false
reference_without r =
    neither (has_float (numbers r.state.bound)) _ (numbers_without r.state.bound)
    (neither (has_float (text_or_null r.state.target)) _ (text_without r.state.target)
    (neither (has_float (numbers r.state.targets)) false (numbers_without r.state.targets) refl))

pub details_without : (id : ℕ) (v : ComponentDetails) → has_float (details_data id v) ≡ false
details_without id v =
    neither (has_float (texts v.description.configuration_pids)) _ (texts_without v.description.configuration_pids)
    (neither (has_float (text_or_null v.factory_configuration)) _ (text_without v.factory_configuration)
    (neither (has_float (number_or_null v.failure)) _ (number_without v.failure)
    (neither (has_float (object (property_members v.properties))) _ (properties_without v.properties)
    (neither (has_float (satisfied_details v.references)) _ (list_without reference_data reference_without (filter (λ (r : ReferenceDetails). r.state.satisfied) v.references))
    (neither (has_float (number_or_null v.service)) _ (number_without v.service)
    (neither (has_float (texts v.description.service_interfaces)) _ (texts_without v.description.service_interfaces)
    (neither (has_float (unsatisfied_details v.references)) false (list_without reference_data reference_without (filter (λ (r : ReferenceDetails). not r.state.satisfied) v.references)) refl)))))))
