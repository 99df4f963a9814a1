-- The rules on a description's fields that say how they go together. Our own words.
use Rattle.std.specs.Prelude.{ℕ, ◌==◌, ◌&&◌, nat_lt, List, [], ◌∷◌, length, map, codes, Bool, true, false, not, Option, Some, None, option_map, if◌then◌else◌, Result, Ok, Err}
use Rattle.std.specs.Option.{is_some, option_or, unwrap_or}
use Rattle.std.specs.Str.{bytes_eq}
use Rattle.component_dto.specs.declared.description.Scope.{Scope}
use Rattle.component_dto.specs.declared.description.Scope.TheVariants.{Singleton, Bundle, Prototype}
use Rattle.component_dto.specs.declared.fault.DescriptionFault.{DescriptionFault}
use Rattle.component_dto.specs.declared.fault.DescriptionFault.TheVariants.{FactoryComponent, PrototypeReference, SameReference, ImmediateScope, DelayedWithoutService, BadTarget, TooManyPids}
use Rattle.component_dto.specs.declared.given_fields.GivenFields.{GivenFields}
use Rattle.component_dto.specs.declared.references.ReferenceFields.{ReferenceFields}
use Rattle.component_dto.specs.declared.references.ReferenceScope.{ReferenceScope}
use Rattle.component_dto.specs.declared.references.ReferenceScope.TheVariants.{Bundle as ForBundle, Prototype as ForUse, PrototypeRequired}
use Rattle.prop_map.specs.Words.{after}
use Rattle.component_dto.specs.Targets.{bad_target}
use Rattle.component_dto.specs.TextLists.{first_repeated}

-- an instance is made at once: as is said, by default where there is no service
abbrev pub is_immediate : GivenFields → Bool
is_immediate f = unwrap_or f.immediate (length f.service_interfaces == 0)

-- for each use an instance
abbrev pub is_for_use : ReferenceScope → Bool
is_for_use ForBundle = false
is_for_use ForUse = true
is_for_use PrototypeRequired = true

abbrev pub is_single : Scope → Bool
is_single Singleton = true
is_single Bundle = false
is_single Prototype = false

-- the name of the first reference that takes an instance for each use
abbrev pub first_for_use : List ReferenceFields → Option (List ℕ)
first_for_use [] = None
first_for_use (r ∷ rs) = if is_for_use r.scope then Some r.reference.name else first_for_use rs

abbrev pub names_of : List ReferenceFields → List (List ℕ)
names_of rs = map (λ (r : ReferenceFields). r.reference.name) rs

abbrev pub is_condition : List ℕ → Bool
is_condition name = bytes_eq name (codes "osgi.ds.satisfying.condition")

-- the satisfying condition is a reference of its own accord (Compendium 8, chapter 112, satisfying condition), where none has its name
abbrev pub is_implicit : List ReferenceFields → Bool
is_implicit [] = true
is_implicit (r ∷ rs) = not (is_condition r.reference.name) && is_implicit rs

-- nothing, or what is wrong
abbrev pub unless : Option DescriptionFault → Result (Unit {0}) DescriptionFault
unless None = Ok tt
unless (Some fault) = Err fault

abbrev pub refused : Bool → DescriptionFault → Result (Unit {0}) DescriptionFault
refused broken fault = if broken then Err fault else Ok tt

-- a service that nobody has isn't to be made later
abbrev pub is_never_made : GivenFields → Bool
is_never_made f = not (unwrap_or f.immediate true) && (length f.service_interfaces == 0)

-- what is wrong with the first target that is no filter
abbrev pub bad_target_of : List ReferenceFields → Option DescriptionFault
bad_target_of [] = None
bad_target_of (r ∷ rs) = option_or (option_map (BadTarget r.reference.name) (bad_target r.reference.target)) (bad_target_of rs)

-- the rules in order: the first that is broken tells
abbrev pub rules : GivenFields → Result (Unit {0}) DescriptionFault
rules f =
    after (refused (is_some f.factory) FactoryComponent) (λ _.
    after (unless (option_map PrototypeReference (first_for_use f.references))) (λ _.
    after (unless (option_map SameReference (first_repeated (names_of f.references)))) (λ _.
    after (refused (is_immediate f && not (is_single f.scope)) ImmediateScope) (λ _.
    after (refused (is_never_made f) DelayedWithoutService) (λ _.
    after (unless (bad_target_of f.references)) (λ _.
    refused (nat_lt 4 (length f.configuration_pids)) TooManyPids))))))
