-- The references of each description of a document that is read differ in name.
use Rattle.std.proofs.Common.{◌≡◌, ℕ, List, [], ◌∷◌, ap, sym, ◌∙◌, refl, subst, Some, None, Ok, Err, inl, inr}
use Rattle.std.specs.Prelude.{codes, map, Option, option_and_then, option_map, Result, is_some}
use Rattle.std.specs.List.{Contains}
use Rattle.serde_json.specs.Data.{Data}
use Rattle.serde_json.specs.Find.{get}
use Rattle.bundle_doc.specs.declared.document.BundleDoc.{BundleDoc}
use Rattle.bundle_doc.specs.declared.fault.DocFault.TheVariants.{MissingEntry, NotJson}
use Rattle.bundle_doc.specs.Documents.{bundle_of, described, document_of, each_of, entries_of, in_entry, json_of, needed_text_at, object_or_none, of_object, text_at, told_apart}
use Rattle.bundle_doc.specs.Entries.{described_entries}
use Rattle.bundle_doc.specs.Headers.{headers_of}
use Rattle.component_dto.specs.declared.description.Description.{Description}
use Rattle.component_dto.specs.declared.description.Reference.{Reference}
use Rattle.component_dto.specs.declared.fault.DescriptionFault.{DescriptionFault}
use Rattle.component_dto.specs.declared.fault.DescriptionFault.TheVariants.{FactoryComponent, PrototypeReference, SameReference}
use Rattle.component_dto.specs.Descriptions.{description_of, described as described_by, given_fields, of_object as of_component}
use Rattle.prop_map.specs.Words.{after}
use Rattle.component_dto.specs.Fields.{given, or_fault}
use Rattle.component_dto.specs.Rules.{first_for_use, names_of, refused, rules, unless}
use Rattle.component_dto.specs.TextLists.{first_repeated}
use Rattle.component_state.proofs.Apart.{in_cases, in_none}
use Rattle.scr_world.specs.Documents.{reference_names}

-- where a step and what follows it give something, the step gave something
module _ {A B F G : Type 0} where
  pub goes_on : (r : Result A F) (next : A → Result B F) (b : B) → after r next ≡ Ok b → ((a : A) → r ≡ Ok a → next a ≡ Ok b → G) → G
  goes_on (Ok a) next b is go = go a refl is
  goes_on (Err f) next b is go = absurd cc

-- ---- a description

none_same : (o : Option (List ℕ)) (u : Unit {0}) → unless (option_map SameReference o) ≡ Ok u → o ≡ None
none_same None u is = refl
none_same (Some name) u is = absurd cc

mapped_twice : {X Y Z : Type 0} (g : Y → Z) (h : X → Y) (xs : List X) → map g (map h xs) ≡ map (λ x. g (h x)) xs
mapped_twice g h [] = refl
mapped_twice g h (x ∷ xs) = ap (λ ys. g (h x) ∷ ys) (mapped_twice g h xs)

-- its rules were kept, that on the names of its references among them
description_named : (value : Data) (d : Description) → description_of value ≡ Ok d → first_repeated (reference_names d) ≡ None
description_named value d is =
    goes_on (of_component value) _ d is (λ a one rest.
    goes_on (given_fields value) _ d rest (λ f two rest.
    goes_on (rules f) _ d rest (λ u kept last.
    goes_on (refused (is_some f.factory) FactoryComponent) _ u kept (λ b three more.
    goes_on (unless (option_map PrototypeReference (first_for_use f.references))) _ u more (λ c four more.
    goes_on (unless (option_map SameReference (first_repeated (names_of f.references)))) _ u more (λ e five more.
    (let same : described_by f ≡ d = cc in
    ap (λ (x : Description). first_repeated (reference_names x)) (sym same)
    ∙ ap (λ (ns : List (List ℕ)). first_repeated ns) (mapped_twice (λ (r : Reference). r.name) _ f.references)
    ∙ none_same (first_repeated (names_of f.references)) e five)))))))

-- ---- a document

-- no two references of one of these descriptions have one name
abbrev pub AreNamed : List Description → Type 0
AreNamed ds = (d : Description) → Contains ds d → first_repeated (reference_names d) ≡ None

entry_is : (name : List ℕ) (r : Result Description DescriptionFault) (d : Description) → in_entry name r ≡ Ok d → r ≡ Ok d
entry_is name (Ok x) d is = let same : x ≡ d = cc in ap (λ (y : Description). Ok y) same
entry_is name (Err fault) d is = absurd cc

entry_named : (components : Option Data) (name : List ℕ) (d : Description) → described components name ≡ Ok d → first_repeated (reference_names d) ≡ None
entry_named components name d is =
    goes_on (or_fault (MissingEntry name) (option_and_then (get name) components)) _ d is (λ value one last.
    description_named value d (entry_is name (description_of value) d last))

none_named : AreNamed []
none_named d h = absurd (in_none d h)

one_more : (x : Description) (xs : List Description) → first_repeated (reference_names x) ≡ None → AreNamed xs → AreNamed (x ∷ xs)
one_more x xs one others d h = elim (in_cases x xs d h) [
  | inl same ↦ ap (λ (y : Description). first_repeated (reference_names y)) (sym same) ∙ one
  | inr later ↦ others d later
]

pub same_named : (xs ys : List Description) → xs ≡ ys → AreNamed xs → AreNamed ys
same_named xs ys same named = let P : List Description → Type 0 = λ ds. AreNamed ds in subst P same named

each_named : (components : Option Data) (names : List (List ℕ)) (ds : List Description) → each_of (described components) names ≡ Ok ds → AreNamed ds
each_named components [] ds is = let same : [] ≡ ds = cc in same_named [] ds same none_named
each_named components (name ∷ names) ds is =
    goes_on (described components name) _ ds is (λ x one rest.
    goes_on (each_of (described components) names) _ ds rest (λ xs two last.
    (let same : x ∷ xs ≡ ds = cc in same_named (x ∷ xs) ds same (one_more x xs (entry_named components name x one) (each_named components names xs two)))))

document_named : (value : Data) (doc : BundleDoc) → document_of value ≡ Ok doc → AreNamed doc.descriptions
document_named value doc is =
    goes_on (of_object value) _ doc is (λ a one rest.
    goes_on (needed_text_at (codes "location") value) _ doc rest (λ location two rest.
    goes_on (text_at (codes "manifest") value) _ doc rest (λ manifest three rest.
    goes_on (object_or_none (codes "components") (given (codes "components") value)) _ doc rest (λ b four rest.
    goes_on (headers_of location manifest) _ doc rest (λ headers five rest.
    goes_on (described_entries (entries_of (given (codes "components") value)) headers.listed) _ doc rest (λ names six rest.
    goes_on (each_of (described (given (codes "components") value)) names) _ doc rest (λ ds seven rest.
    goes_on (told_apart ds) _ doc rest (λ c eight last.
    (let same : ds ≡ doc.descriptions = cc in same_named ds doc.descriptions same (each_named (given (codes "components") value) names ds seven))))))))))

-- so in what bytes mean
pub bundle_named : (bytes : List ℕ) (doc : BundleDoc) → bundle_of bytes ≡ Ok doc → AreNamed doc.descriptions
bundle_named bytes doc is =
    goes_on (or_fault NotJson (json_of bytes)) _ doc is (λ value one last. document_named value doc last)
