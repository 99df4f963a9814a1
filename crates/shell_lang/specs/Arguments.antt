-- What the document, the properties or the filter of a line mean. Our own form.
use Rattle.std.specs.Prelude.{ℕ, ◌==◌, List, [], ◌∷◌, Bool, false, Result, Ok, Err, if◌then◌else◌}
use Rattle.bundle_doc.specs.declared.document.BundleDoc.{BundleDoc}
use Rattle.bundle_doc.specs.declared.fault.DocFault.{DocFault}
use Rattle.bundle_doc.specs.Documents.{bundle_of}
use Rattle.prop_map.specs.Words.{after}
use Rattle.component_dto.specs.Fields.{or_fault}
use Rattle.ldap_filter.specs.declared.filter_fault.FilterFault.{FilterFault}
use Rattle.ldap_filter.specs.declared.filter_fault.FilterFault.TheVariants.{BadFilter, TooDeep, OutOfMemory as NoFilterMemory}
use Rattle.ldap_filter.specs.Trees.{Tree}
use Rattle.prop_map.specs.declared.prop_fault.PropFault.{PropFault}
use Rattle.prop_map.specs.declared.prop_fault.PropFault.TheVariants.{NotObject, FloatValue, NestedValue, MixedList, SameKey, OutOfMemory as NoPropertyMemory}
use Rattle.prop_map.specs.declared.properties.Property.{Property}
use Rattle.prop_map.specs.JsonProperties.{properties_of}
use Rattle.serde_json.specs.Read.{read}
use Rattle.shell_lang.specs.declared.line_fault.LineFault.{LineFault}
use Rattle.shell_lang.specs.declared.line_fault.LineFault.TheVariants.{NoFile, NotJson, Document, Properties, FilterText, OutOfMemory}
use Rattle.shell_lang.specs.FilterTexts.{filter_read}

-- a document as a line has it
abbrev pub given_document : Result BundleDoc DocFault → Result BundleDoc LineFault
given_document (Ok doc) = Ok doc
given_document (Err fault) = Err (Document fault)

-- a text that begins with an at sign names a file: where a line is read, nothing has put its bytes there
abbrev pub names_file : List ℕ → Bool
names_file [] = false
names_file (b ∷ bs) = b == 64

abbrev pub document_argument : List ℕ → Result BundleDoc LineFault
document_argument text = if names_file text then Err NoFile else given_document (bundle_of text)

-- why a line is refused whose properties aren't read
abbrev pub property_fault : PropFault → LineFault
property_fault NotObject = Properties NotObject
property_fault (FloatValue key) = Properties (FloatValue key)
property_fault (NestedValue key) = Properties (NestedValue key)
property_fault (MixedList key) = Properties (MixedList key)
property_fault (SameKey key) = Properties (SameKey key)
property_fault NoPropertyMemory = OutOfMemory

-- properties as a line has them
abbrev pub given_properties : Result (List Property) PropFault → Result (List Property) LineFault
given_properties (Ok properties) = Ok properties
given_properties (Err fault) = Err (property_fault fault)

abbrev pub properties_argument : List ℕ → Result (List Property) LineFault
properties_argument text = after (or_fault NotJson (read text)) (λ d. given_properties (properties_of d))

-- why a line is refused whose filter isn't read
abbrev pub filter_fault : FilterFault → LineFault
filter_fault (BadFilter at ended) = FilterText (BadFilter at ended)
filter_fault (TooDeep at) = FilterText (TooDeep at)
filter_fault NoFilterMemory = OutOfMemory

-- a filter as a line has it
abbrev pub in_line : Result Tree FilterFault → Result Tree LineFault
in_line (Ok tree) = Ok tree
in_line (Err fault) = Err (filter_fault fault)

abbrev pub filter_argument : List ℕ → Result Tree LineFault
filter_argument text = in_line (filter_read text)
