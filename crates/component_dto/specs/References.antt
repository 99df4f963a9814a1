-- A reference as JSON data: ReferenceDTO of OSGi Compendium 8, chapter 112. The defaults are those of its attributes in
-- section 112.4 (component description); that of the name is our own.
use Rattle.std.specs.Prelude.{ℕ, ◌&&◌, List, codes, Bool, true, Option, Some, None, option_and_then, if◌then◌else◌, Result, Ok}
use Rattle.std.specs.Option.{is_some, unwrap_or}
use Rattle.serde_json.specs.Data.{Data, Items, no_items, item}
use Rattle.serde_json.specs.Find.{as_array, as_object}
use Rattle.prop_map.specs.declared.reference_words.Cardinality.TheVariants.{One}
use Rattle.prop_map.specs.declared.reference_words.Policy.TheVariants.{Static}
use Rattle.prop_map.specs.declared.reference_words.PolicyOption.TheVariants.{Reluctant}
use Rattle.component_dto.specs.declared.fault.DescriptionFault.{DescriptionFault}
use Rattle.component_dto.specs.declared.fault.DescriptionFault.TheVariants.{WrongType}
use Rattle.component_dto.specs.declared.references.ReferenceFields.{ReferenceFields}
use Rattle.component_dto.specs.declared.references.ReferenceScope.TheVariants.{Bundle}
use Rattle.prop_map.specs.Words.{after}
use Rattle.component_dto.specs.Fields.{each_read, filled, given, if_given, needed_text_at, or_empty, or_fault, text_at, word_at}
use Rattle.component_dto.specs.Words.{cardinality_of, policy_of, policy_option_of, reference_scope_of}

-- the fields of a reference in order, with their defaults, or the first that is at fault
abbrev pub reference_fields : Data → Result ReferenceFields DescriptionFault
reference_fields d =
    after (text_at (codes "name") d) (λ name.
    after (needed_text_at (codes "interfaceName") d) (λ interface.
    after (word_at cardinality_of (codes "cardinality") d) (λ cardinality.
    after (word_at policy_of (codes "policy") d) (λ policy.
    after (word_at policy_option_of (codes "policyOption") d) (λ option.
    after (text_at (codes "target") d) (λ target.
    after (text_at (codes "updated") d) (λ updated.
    after (word_at reference_scope_of (codes "scope") d) (λ scope.
    Ok (record {
      reference = record {
        name = unwrap_or name interface;
        interface_name = interface;
        cardinality = unwrap_or cardinality One;
        policy = unwrap_or policy Static;
        policy_option = unwrap_or option Reluctant;
        target = filled target;
        updated = updated;
      };
      scope = unwrap_or scope Bundle;
    })))))))))

abbrev pub are_objects : Items → Bool
are_objects no_items = true
are_objects (item d ds) = is_some (as_object d) && are_objects ds

abbrev pub object_items : Items → Option Items
object_items ds = if are_objects ds then Some ds else None

-- a list of objects, each of which is a reference
abbrev pub references_in : List ℕ → Data → Result (List ReferenceFields) DescriptionFault
references_in field d = after (or_fault (WrongType field) (option_and_then object_items (as_array d))) (λ ds. each_read reference_fields ds)

abbrev pub references_at : List ℕ → Data → Result (List ReferenceFields) DescriptionFault
references_at field d = after (if_given (references_in field) (given field d)) (λ references. Ok (or_empty references))
