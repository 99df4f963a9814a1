-- The words of a description's fields. OSGi Compendium 8, chapter 112: the attributes `scope`, `configuration-policy`,
-- `cardinality`, `policy` and `policy-option`.
use Rattle.std.specs.Prelude.{ℕ, List, codes, Option, Some, None, if◌then◌else◌}
use Rattle.std.specs.Str.{bytes_eq}
use Rattle.prop_map.specs.declared.reference_words.Cardinality.{Cardinality}
use Rattle.prop_map.specs.declared.reference_words.Cardinality.TheVariants.{ZeroOrOne, One, ZeroOrMore, OneOrMore}
use Rattle.prop_map.specs.declared.reference_words.Policy.{Policy}
use Rattle.prop_map.specs.declared.reference_words.Policy.TheVariants.{Static, Dynamic}
use Rattle.prop_map.specs.declared.reference_words.PolicyOption.{PolicyOption}
use Rattle.prop_map.specs.declared.reference_words.PolicyOption.TheVariants.{Reluctant, Greedy}
use Rattle.component_dto.specs.declared.description.Scope.{Scope}
use Rattle.component_dto.specs.declared.description.Scope.TheVariants.{Singleton, Bundle, Prototype}
use Rattle.component_dto.specs.declared.description.ConfigurationPolicy.{ConfigurationPolicy}
use Rattle.component_dto.specs.declared.description.ConfigurationPolicy.TheVariants.{Optional, Require, Ignore}
use Rattle.component_dto.specs.declared.references.ReferenceScope.{ReferenceScope}
use Rattle.component_dto.specs.declared.references.ReferenceScope.TheVariants.{Bundle as ForBundle, Prototype as ForUse, PrototypeRequired}

abbrev pub scope_of : List ℕ → Option Scope
scope_of word = if bytes_eq word (codes "singleton") then Some Singleton else (if bytes_eq word (codes "bundle") then Some Bundle else (if bytes_eq word (codes "prototype") then Some Prototype else None))

abbrev pub configuration_policy_of : List ℕ → Option ConfigurationPolicy
configuration_policy_of word = if bytes_eq word (codes "optional") then Some Optional else (if bytes_eq word (codes "require") then Some Require else (if bytes_eq word (codes "ignore") then Some Ignore else None))

abbrev pub cardinality_of : List ℕ → Option Cardinality
cardinality_of word = if bytes_eq word (codes "0..1") then Some ZeroOrOne else (if bytes_eq word (codes "1..1") then Some One
    else (if bytes_eq word (codes "0..n") then Some ZeroOrMore else (if bytes_eq word (codes "1..n") then Some OneOrMore else None)))

abbrev pub policy_of : List ℕ → Option Policy
policy_of word = if bytes_eq word (codes "static") then Some Static else (if bytes_eq word (codes "dynamic") then Some Dynamic else None)

abbrev pub policy_option_of : List ℕ → Option PolicyOption
policy_option_of word = if bytes_eq word (codes "reluctant") then Some Reluctant else (if bytes_eq word (codes "greedy") then Some Greedy else None)

abbrev pub reference_scope_of : List ℕ → Option ReferenceScope
reference_scope_of word = if bytes_eq word (codes "bundle") then Some ForBundle else (if bytes_eq word (codes "prototype") then Some ForUse
    else (if bytes_eq word (codes "prototype_required") then Some PrototypeRequired else None))
