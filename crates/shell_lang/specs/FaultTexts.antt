-- The text of a document's fault: the name of the innermost fault, the entry that it is in, and its fields. Our own form.
use Rattle.std.specs.Prelude.{ℕ, List, [], ◌++◌, codes}
use Rattle.std.specs.Fmt.{decimal}
use Rattle.prop_map.specs.declared.prop_fault.PropFault.{PropFault}
use Rattle.prop_map.specs.declared.prop_fault.PropFault.TheVariants.{NotObject, FloatValue, NestedValue, MixedList, SameKey, OutOfMemory as NoPropertyMemory}
use Rattle.component_dto.specs.declared.fault.DescriptionFault.{DescriptionFault}
use Rattle.component_dto.specs.declared.fault.DescriptionFault.TheVariants.{MissingField as NoField, WrongType as OtherType, BadWord, BadProperty, FactoryComponent, PrototypeReference, SameReference, ImmediateScope, DelayedWithoutService, BadTarget, TooManyPids, OutOfMemory as NoDescriptionMemory}
use Rattle.bundle_headers.specs.declared.fault.HeaderFault.{HeaderFault}
use Rattle.bundle_headers.specs.declared.fault.HeaderFault.TheVariants.{BadHeader, NotUtf8, DuplicateHeader, BadClause, MissingName, BadManifestVersion, BadVersion, OutOfMemory as NoHeaderMemory}
use Rattle.bundle_doc.specs.declared.fault.DocFault.{DocFault}
use Rattle.bundle_doc.specs.declared.fault.DocFault.TheVariants.{NotJson, MissingField, WrongType, MissingEntry, SameComponent, Header, InEntry, OutOfMemory}

-- a word behind a blank
abbrev pub spaced : List ℕ → List ℕ
spaced word = codes " " ++ word

abbrev pub prop_fault_name : PropFault → List ℕ
prop_fault_name NotObject = codes "NotObject"
prop_fault_name (FloatValue key) = codes "FloatValue"
prop_fault_name (NestedValue key) = codes "NestedValue"
prop_fault_name (MixedList key) = codes "MixedList"
prop_fault_name (SameKey key) = codes "SameKey"
prop_fault_name NoPropertyMemory = codes "OutOfMemory"

abbrev pub prop_fault_fields : PropFault → List ℕ
prop_fault_fields NotObject = []
prop_fault_fields (FloatValue key) = spaced key
prop_fault_fields (NestedValue key) = spaced key
prop_fault_fields (MixedList key) = spaced key
prop_fault_fields (SameKey key) = spaced key
prop_fault_fields NoPropertyMemory = []

-- a fault of properties alone
abbrev pub prop_fault_text : PropFault → List ℕ
prop_fault_text fault = prop_fault_name fault ++ prop_fault_fields fault

-- a property's fault is told in place of the description's
abbrev pub description_fault_name : DescriptionFault → List ℕ
description_fault_name (NoField field) = codes "MissingField"
description_fault_name (OtherType field) = codes "WrongType"
description_fault_name (BadWord field) = codes "BadWord"
description_fault_name (BadProperty fault) = prop_fault_name fault
description_fault_name FactoryComponent = codes "FactoryComponent"
description_fault_name (PrototypeReference name) = codes "PrototypeReference"
description_fault_name (SameReference name) = codes "SameReference"
description_fault_name ImmediateScope = codes "ImmediateScope"
description_fault_name DelayedWithoutService = codes "DelayedWithoutService"
description_fault_name (BadTarget name at) = codes "BadTarget"
description_fault_name TooManyPids = codes "TooManyPids"
description_fault_name NoDescriptionMemory = codes "OutOfMemory"

abbrev pub description_fault_fields : DescriptionFault → List ℕ
description_fault_fields (NoField field) = spaced field
description_fault_fields (OtherType field) = spaced field
description_fault_fields (BadWord field) = spaced field
description_fault_fields (BadProperty fault) = prop_fault_fields fault
description_fault_fields FactoryComponent = []
description_fault_fields (PrototypeReference name) = spaced name
description_fault_fields (SameReference name) = spaced name
description_fault_fields ImmediateScope = []
description_fault_fields DelayedWithoutService = []
description_fault_fields (BadTarget name at) = spaced name ++ spaced (decimal at)
description_fault_fields TooManyPids = []
description_fault_fields NoDescriptionMemory = []

abbrev pub header_fault_name : HeaderFault → List ℕ
header_fault_name (BadHeader line) = codes "BadHeader"
header_fault_name (NotUtf8 at) = codes "NotUtf8"
header_fault_name (DuplicateHeader line) = codes "DuplicateHeader"
header_fault_name (BadClause at) = codes "BadClause"
header_fault_name MissingName = codes "MissingName"
header_fault_name BadManifestVersion = codes "BadManifestVersion"
header_fault_name (BadVersion at) = codes "BadVersion"
header_fault_name NoHeaderMemory = codes "OutOfMemory"

abbrev pub header_fault_fields : HeaderFault → List ℕ
header_fault_fields (BadHeader line) = spaced (decimal line)
header_fault_fields (NotUtf8 at) = spaced (decimal at)
header_fault_fields (DuplicateHeader line) = spaced (decimal line)
header_fault_fields (BadClause at) = spaced (decimal at)
header_fault_fields MissingName = []
header_fault_fields BadManifestVersion = []
header_fault_fields (BadVersion at) = spaced (decimal at)
header_fault_fields NoHeaderMemory = []

-- a header's or an entry's fault is told in place of the document's
abbrev pub document_fault_name : DocFault → List ℕ
document_fault_name NotJson = codes "NotJson"
document_fault_name (MissingField field) = codes "MissingField"
document_fault_name (WrongType field) = codes "WrongType"
document_fault_name (MissingEntry name) = codes "MissingEntry"
document_fault_name (SameComponent name) = codes "SameComponent"
document_fault_name (Header fault) = header_fault_name fault
document_fault_name (InEntry name fault) = description_fault_name fault
document_fault_name OutOfMemory = codes "OutOfMemory"

abbrev pub document_fault_fields : DocFault → List ℕ
document_fault_fields NotJson = []
document_fault_fields (MissingField field) = spaced field
document_fault_fields (WrongType field) = spaced field
document_fault_fields (MissingEntry name) = spaced name
document_fault_fields (SameComponent name) = spaced name
document_fault_fields (Header fault) = header_fault_fields fault
document_fault_fields (InEntry name fault) = description_fault_fields fault
document_fault_fields OutOfMemory = []

-- the entry that a fault is in
abbrev pub document_fault_entry : DocFault → List ℕ
document_fault_entry (InEntry name fault) = spaced name
document_fault_entry _ = []

-- a fault's name, its entry and its fields
abbrev pub document_fault_text : DocFault → List ℕ
document_fault_text fault = document_fault_name fault ++ document_fault_entry fault ++ document_fault_fields fault
