-- From the meaning of JSON to that of bytes.
use Rattle.std.proofs.Common.{◌≡◌, ℕ, List, ap, sym, refl, subst, Bool, true, false, Result, Err, Option, Some, None}
use Rattle.std.specs.Str.{IsUtf8, is_utf8}
use Rattle.std.proofs.lemmas.Str.{is_utf8-from_IsUtf8, IsUtf8-from_is_utf8}
use Rattle.serde_json.specs.Data.{Data}
use Rattle.serde_json.specs.Read.{read}
use Rattle.prop_map.specs.Words.{after}
use Rattle.component_dto.specs.Fields.{or_fault}
use Rattle.bundle_doc.specs.declared.document.BundleDoc.{BundleDoc}
use Rattle.bundle_doc.specs.declared.fault.DocFault.{DocFault}
use Rattle.bundle_doc.specs.declared.fault.DocFault.TheVariants.{NotJson}
use Rattle.bundle_doc.specs.Documents.{json_of, bundle_of, document_of}
use Rattle.bundle_doc.specs.Faults.{Reads}

json_read : (bytes : List ℕ) (d : Data) → IsUtf8 bytes → read bytes ≡ Some d → json_of bytes ≡ Some d
json_read bytes d text is = rw (is_utf8-from_IsUtf8 bytes text) is

-- what isn't read as a text isn't JSON
pub json_none : (bytes : List ℕ) → (IsUtf8 bytes → read bytes ≡ None) → bundle_of bytes ≡ Err NotJson
json_none bytes unread = ap (λ (o : Option Data). after (or_fault NotJson o) document_of) (cases (is_utf8 bytes) refl) where
  cases : (b : Bool) → b ≡ is_utf8 bytes → json_of bytes ≡ None
  cases true is = rw (← is) (unread (IsUtf8-from_is_utf8 bytes (sym is)))
  cases false is = rw (← is) refl

-- the answer to the JSON is the answer to the bytes
pub json_answer : (bytes : List ℕ) (d : Data) (r : Result BundleDoc DocFault) → IsUtf8 bytes → read bytes ≡ Some d → Reads r (document_of d) → Reads r (bundle_of bytes)
json_answer bytes d r text is reads =
    let same : document_of d ≡ bundle_of bytes = sym (ap (λ (o : Option Data). after (or_fault NotJson o) document_of) (json_read bytes d text is)) in
    subst (λ w. Reads r w) same reads
