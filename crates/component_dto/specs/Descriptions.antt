-- A description as JSON data: ComponentDescriptionDTO of OSGi Compendium 8, chapter 112. The defaults are those of its
-- attributes and elements in section 112.4; that of the name is our own.
use Rattle.std.specs.Prelude.{ℕ, true, List, [], ◌∷◌, map, codes, if◌then◌else◌, Result, Ok, Err}
use Rattle.std.specs.Option.{is_some, unwrap_or}
use Rattle.std.specs.Str.{bytes_eq}
use Rattle.serde_json.specs.Data.{Data}
use Rattle.serde_json.specs.Find.{as_object}
use Rattle.prop_map.specs.JsonProperties.{properties_of}
use Rattle.prop_map.specs.declared.prop_fault.PropFault.{PropFault}
use Rattle.prop_map.specs.declared.prop_fault.PropFault.TheVariants.{NotObject, FloatValue, NestedValue, MixedList, SameKey, OutOfMemory as NoMemory}
use Rattle.prop_map.specs.declared.properties.Property.{Property}
use Rattle.component_dto.specs.declared.description.Description.{Description}
use Rattle.component_dto.specs.declared.description.Reference.{Reference}
use Rattle.component_dto.specs.declared.description.Scope.TheVariants.{Singleton}
use Rattle.component_dto.specs.declared.description.ConfigurationPolicy.TheVariants.{Optional}
use Rattle.component_dto.specs.declared.fault.DescriptionFault.{DescriptionFault}
use Rattle.component_dto.specs.declared.fault.DescriptionFault.TheVariants.{WrongType, BadProperty, OutOfMemory}
use Rattle.component_dto.specs.declared.given_fields.GivenFields.{GivenFields}
use Rattle.component_dto.specs.declared.given_fields.LifeFields.{LifeFields}
use Rattle.component_dto.specs.declared.references.ReferenceFields.{ReferenceFields}
use Rattle.prop_map.specs.Words.{after}
use Rattle.component_dto.specs.Fields.{flag_at, given, if_given, needed_text_at, or_empty, text_at, texts_at, word_at}
use Rattle.component_dto.specs.References.{references_at}
use Rattle.component_dto.specs.Rules.{is_immediate, is_implicit, rules}
use Rattle.component_dto.specs.TextLists.{each_once}
use Rattle.component_dto.specs.Words.{configuration_policy_of, scope_of}

-- what is wrong with properties, as a description's fault
abbrev pub fault_in : List ℕ → PropFault → DescriptionFault
fault_in field NotObject = WrongType field
fault_in field (FloatValue key) = BadProperty (FloatValue key)
fault_in field (NestedValue key) = BadProperty (NestedValue key)
fault_in field (MixedList key) = BadProperty (MixedList key)
fault_in field (SameKey key) = BadProperty (SameKey key)
fault_in field NoMemory = OutOfMemory

abbrev pub with_fault_in : List ℕ → Result (List Property) PropFault → Result (List Property) DescriptionFault
with_fault_in field (Ok properties) = Ok properties
with_fault_in field (Err fault) = Err (fault_in field fault)

abbrev pub properties_in : List ℕ → Data → Result (List Property) DescriptionFault
properties_in field d = with_fault_in field (properties_of d)

abbrev pub properties_at : List ℕ → Data → Result (List Property) DescriptionFault
properties_at field d = after (if_given (properties_in field) (given field d)) (λ properties. Ok (or_empty properties))

-- the fields behind the references in order: callbacks of a component's life, and its configurations
abbrev pub life_fields : Data → Result LifeFields DescriptionFault
life_fields d =
    after (text_at (codes "activate") d) (λ _.
    after (text_at (codes "deactivate") d) (λ _.
    after (text_at (codes "modified") d) (λ modified.
    after (word_at configuration_policy_of (codes "configurationPolicy") d) (λ policy.
    after (texts_at (codes "configurationPid") d) (λ pids.
    Ok (record { modified = modified; configuration_policy = policy; configuration_pids = pids }))))))

-- `$` stands for the name
abbrev pub pid_of : List ℕ → List ℕ → List ℕ
pid_of name pid = if bytes_eq pid (codes "$") then name else pid

-- the PIDs of a component of this name, each once, by default the name
abbrev pub pids_of : List ℕ → List (List ℕ) → List (List ℕ)
pids_of name [] = name ∷ []
pids_of name (pid ∷ pids) = each_once (map (pid_of name) (pid ∷ pids))

-- the fields of a description in order, or the first that is at fault
abbrev pub given_fields : Data → Result GivenFields DescriptionFault
given_fields d =
    after (text_at (codes "name") d) (λ name.
    after (text_at (codes "factory") d) (λ factory.
    after (word_at scope_of (codes "scope") d) (λ scope.
    after (needed_text_at (codes "implementationClass") d) (λ class.
    after (flag_at (codes "defaultEnabled") d) (λ enabled.
    after (flag_at (codes "immediate") d) (λ immediate.
    after (texts_at (codes "serviceInterfaces") d) (λ interfaces.
    after (properties_at (codes "properties") d) (λ properties.
    after (references_at (codes "references") d) (λ references.
    after (life_fields d) (λ life.
    Ok (record {
      name = unwrap_or name class;
      factory = factory;
      scope = unwrap_or scope Singleton;
      implementation_class = class;
      default_enabled = unwrap_or enabled true;
      immediate = immediate;
      service_interfaces = each_once interfaces;
      properties = properties;
      references = references;
      modified = life.modified;
      configuration_policy = unwrap_or life.configuration_policy Optional;
      configuration_pids = pids_of (unwrap_or name class) life.configuration_pids;
    })))))))))))

abbrev pub of_object : Data → Result (Unit {0}) DescriptionFault
of_object d = if is_some (as_object d) then Ok tt else Err (WrongType (codes "component"))

abbrev pub references_of : GivenFields → List Reference
references_of f = map (λ (r : ReferenceFields). r.reference) f.references

-- the description that these fields give
abbrev pub described : GivenFields → Description
described f = record {
  name = f.name;
  scope = f.scope;
  implementation_class = f.implementation_class;
  default_enabled = f.default_enabled;
  immediate = is_immediate f;
  service_interfaces = f.service_interfaces;
  properties = f.properties;
  references = references_of f;
  modified = f.modified;
  configuration_policy = f.configuration_policy;
  configuration_pids = f.configuration_pids;
  implicit = is_implicit f.references;
}

-- the description that a value is, or what is wrong with it first: that it is no object, a field, a rule
abbrev pub description_of : Data → Result Description DescriptionFault
description_of d = after (of_object d) (λ _. after (given_fields d) (λ f. after (rules f) (λ _. Ok (described f))))
