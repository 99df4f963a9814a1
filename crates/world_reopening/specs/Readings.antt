-- What the texts of a kept world are read as. Our own.
use Rattle.std.specs.Prelude.{ℕ, ◌==◌, List, [], ◌∷◌, codes, Option, Some, None, if◌then◌else◌}
use Rattle.std.specs.Option.{option_and_then}
use Rattle.std.specs.Result.{result_ok}
use Rattle.bundle_doc.specs.Documents.{bundle_of}
use Rattle.bundle_doc.specs.declared.document.BundleDoc.{BundleDoc}
use Rattle.component_dto.specs.Fields.{or_fault}
use Rattle.prop_map.specs.JsonProperties.{properties_of}
use Rattle.prop_map.specs.Words.{after}
use Rattle.prop_map.specs.declared.prop_fault.PropFault.TheVariants.{NotObject}
use Rattle.prop_map.specs.declared.properties.Property.{Property}
use Rattle.serde_json.specs.Read.{read}

-- the properties that a text gives
abbrev pub properties_in : List ℕ → Option (List Property)
properties_in text = result_ok (after (or_fault NotObject (read text)) properties_of)

-- the bundle that a document describes
abbrev pub document_in : List ℕ → Option BundleDoc
document_in text = result_ok (bundle_of text)

-- what follows the front of a text
abbrev pub behind : List ℕ → List ℕ → Option (List ℕ)
behind [] text = Some text
behind (x ∷ front) [] = None
behind (x ∷ front) (y ∷ text) = if x == y then behind front text else None

-- the name of a factory's configuration, by the PID of the factory and its own
abbrev pub name_of : List ℕ → List ℕ → Option (List ℕ)
name_of factory pid = option_and_then (behind (codes "~")) (behind factory pid)
