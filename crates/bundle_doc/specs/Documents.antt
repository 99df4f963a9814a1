-- A bundle's document as JSON data: our own form.
use Rattle.std.specs.Prelude.{ℕ, List, [], ◌∷◌, codes, map, Option, Some, None, option_and_then, if◌then◌else◌, Result, Ok, Err}
use Rattle.std.specs.Option.{is_some}
use Rattle.std.specs.Str.{is_utf8}
use Rattle.serde_json.specs.Data.{Data, Members}
use Rattle.serde_json.specs.Find.{as_object, as_str, get}
use Rattle.serde_json.specs.Read.{read}
use Rattle.prop_map.specs.JsonProperties.{keys_of}
use Rattle.component_dto.specs.declared.description.Description.{Description}
use Rattle.component_dto.specs.declared.fault.DescriptionFault.{DescriptionFault}
use Rattle.component_dto.specs.declared.fault.DescriptionFault.TheVariants.{MissingField as NoField, WrongType as OtherType, BadWord, BadProperty, FactoryComponent, PrototypeReference, SameReference, ImmediateScope, DelayedWithoutService, BadTarget, TooManyPids, OutOfMemory as NoMemory}
use Rattle.component_dto.specs.Descriptions.{description_of}
use Rattle.prop_map.specs.Words.{after}
use Rattle.component_dto.specs.Fields.{filled, given, if_given, or_fault}
use Rattle.component_dto.specs.TextLists.{first_repeated}
use Rattle.bundle_doc.specs.declared.document.BundleDoc.{BundleDoc}
use Rattle.bundle_doc.specs.declared.fault.DocFault.{DocFault}
use Rattle.bundle_doc.specs.declared.fault.DocFault.TheVariants.{NotJson, MissingField, WrongType, MissingEntry, SameComponent, InEntry, OutOfMemory}
use Rattle.bundle_doc.specs.Entries.{described_entries}
use Rattle.bundle_doc.specs.Headers.{headers_of}

abbrev pub text_in : List ℕ → Data → Result (List ℕ) DocFault
text_in field d = or_fault (WrongType field) (as_str d)

abbrev pub text_at : List ℕ → Data → Result (Option (List ℕ)) DocFault
text_at field d = if_given (text_in field) (given field d)

-- a text that is there and isn't empty
abbrev pub needed_text_at : List ℕ → Data → Result (List ℕ) DocFault
needed_text_at field d = after (text_at field d) (λ text. or_fault (MissingField field) (filled text))

-- an object, where something is there
abbrev pub object_or_none : List ℕ → Option Data → Result (Unit {0}) DocFault
object_or_none field None = Ok tt
object_or_none field (Some d) = if is_some (as_object d) then Ok tt else Err (WrongType field)

abbrev pub keys_or_none : Option Members → List (List ℕ)
keys_or_none None = []
keys_or_none (Some ms) = keys_of ms

-- the names of the entries, in byte order
abbrev pub entries_of : Option Data → List (List ℕ)
entries_of components = keys_or_none (option_and_then as_object components)

-- a fault of a description as that of the document with it
abbrev pub fault_in_entry : List ℕ → DescriptionFault → DocFault
fault_in_entry name NoMemory = OutOfMemory
fault_in_entry name (NoField field) = InEntry name (NoField field)
fault_in_entry name (OtherType field) = InEntry name (OtherType field)
fault_in_entry name (BadWord field) = InEntry name (BadWord field)
fault_in_entry name (BadProperty fault) = InEntry name (BadProperty fault)
fault_in_entry name FactoryComponent = InEntry name FactoryComponent
fault_in_entry name (PrototypeReference reference) = InEntry name (PrototypeReference reference)
fault_in_entry name (SameReference reference) = InEntry name (SameReference reference)
fault_in_entry name ImmediateScope = InEntry name ImmediateScope
fault_in_entry name DelayedWithoutService = InEntry name DelayedWithoutService
fault_in_entry name (BadTarget reference at) = InEntry name (BadTarget reference at)
fault_in_entry name TooManyPids = InEntry name TooManyPids

abbrev pub in_entry : List ℕ → Result Description DescriptionFault → Result Description DocFault
in_entry name (Ok description) = Ok description
in_entry name (Err fault) = Err (fault_in_entry name fault)

-- the description of the entry of this name
abbrev pub described : Option Data → List ℕ → Result Description DocFault
described components name = after (or_fault (MissingEntry name) (option_and_then (get name) components)) (λ d. in_entry name (description_of d))

-- what each item of a list is, up to the first fault
abbrev pub each_of : {A B F : Type 0} → (A → Result B F) → List A → Result (List B) F
each_of reading [] = Ok []
each_of reading (x ∷ xs) = after (reading x) (λ y. after (each_of reading xs) (λ ys. Ok (y ∷ ys)))

abbrev pub names_of : List Description → List (List ℕ)
names_of descriptions = map (λ (d : Description). d.name) descriptions

abbrev pub unless_same : Option (List ℕ) → Result (Unit {0}) DocFault
unless_same None = Ok tt
unless_same (Some name) = Err (SameComponent name)

-- no two components have one name
abbrev pub told_apart : List Description → Result (Unit {0}) DocFault
told_apart descriptions = unless_same (first_repeated (names_of descriptions))

abbrev pub of_object : Data → Result (Unit {0}) DocFault
of_object d = if is_some (as_object d) then Ok tt else Err (WrongType (codes "document"))

-- the document that a value is, or what is wrong with it first
abbrev pub document_of : Data → Result BundleDoc DocFault
document_of d =
    after (of_object d) (λ _.
    after (needed_text_at (codes "location") d) (λ location.
    after (text_at (codes "manifest") d) (λ manifest.
    after (object_or_none (codes "components") (given (codes "components") d)) (λ _.
    after (headers_of location manifest) (λ headers.
    after (described_entries (entries_of (given (codes "components") d)) headers.listed) (λ names.
    after (each_of (described (given (codes "components") d)) names) (λ descriptions.
    after (told_apart descriptions) (λ _.
    Ok (record {
      location = location;
      name = headers.name;
      version = headers.version;
      manifest = headers.manifest;
      activator = headers.activator;
      descriptions = descriptions;
    })))))))))

-- the JSON that bytes are, where they are a text
abbrev pub json_of : List ℕ → Option Data
json_of bytes = if is_utf8 bytes then read bytes else None

-- what the bytes of a document mean
abbrev pub bundle_of : List ℕ → Result BundleDoc DocFault
bundle_of bytes = after (or_fault NotJson (json_of bytes)) document_of
