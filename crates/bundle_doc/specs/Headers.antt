-- What a document's manifest says of its bundle. OSGi Core 8, section 3.2.1: Bundle-ManifestVersion, Bundle-SymbolicName,
-- Bundle-Version, Bundle-Activator; OSGi Compendium 8, section 112.4 (component description): Service-Component.
use Rattle.std.specs.Prelude.{ℕ, List, [], ◌∷◌, codes, Bool, false, Option, Some, None, option_and_then, Result, Ok, Err, if◌then◌else◌}
use Rattle.std.specs.Str.{bytes_eq}
use Rattle.bundle_headers.specs.Headers.{Header as Line, header_value, manifest_of}
use Rattle.bundle_headers.specs.declared.clauses.Clause.{Clause}
use Rattle.bundle_headers.specs.declared.clauses.Clauses.{Clauses}
use Rattle.bundle_headers.specs.declared.fault.HeaderFault.{HeaderFault}
use Rattle.bundle_headers.specs.declared.fault.HeaderFault.TheVariants.{BadHeader, NotUtf8, DuplicateHeader, BadClause, MissingName, BadManifestVersion, BadVersion, OutOfMemory as NoMemory}
use Rattle.osgi_version.specs.Versions.{empty_version}
use Rattle.osgi_version.specs.declared.fault.VersionFault.{VersionFault}
use Rattle.osgi_version.specs.declared.fault.VersionFault.TheVariants.{BadVersion as BadAt, OutOfMemory as NoRoom}
use Rattle.osgi_version.specs.declared.version.Version.{Version}
use Rattle.prop_map.specs.Words.{after}
use Rattle.component_dto.specs.Fields.{or_fault}
use Rattle.bundle_doc.specs.declared.fault.DocFault.{DocFault}
use Rattle.bundle_doc.specs.declared.fault.DocFault.TheVariants.{Header, OutOfMemory}
use Rattle.bundle_doc.specs.declared.headers.Listed.{Listed}
use Rattle.bundle_doc.specs.declared.headers.Listed.TheVariants.{Every, Named}
use Rattle.bundle_doc.specs.declared.headers.Headers.{Headers}
use Rattle.bundle_doc.specs.Names.{items_of}
use Rattle.bundle_doc.specs.Texts.{clauses_of, version_of}

-- a fault of the headers as a document's
abbrev pub header_fault : HeaderFault → DocFault
header_fault (BadHeader line) = Header (BadHeader line)
header_fault (NotUtf8 at) = Header (NotUtf8 at)
header_fault (DuplicateHeader line) = Header (DuplicateHeader line)
header_fault (BadClause at) = Header (BadClause at)
header_fault MissingName = Header MissingName
header_fault BadManifestVersion = Header BadManifestVersion
header_fault (BadVersion at) = Header (BadVersion at)
header_fault NoMemory = OutOfMemory

abbrev pub with_header_fault : {T : Type 0} → Result T HeaderFault → Result T DocFault
with_header_fault (Ok x) = Ok x
with_header_fault (Err fault) = Err (header_fault fault)

abbrev pub version_fault : VersionFault → DocFault
version_fault (BadAt at) = Header (BadVersion at)
version_fault NoRoom = OutOfMemory

abbrev pub with_version_fault : Result Version VersionFault → Result Version DocFault
with_version_fault (Ok v) = Ok v
with_version_fault (Err fault) = Err (version_fault fault)

-- the version of a manifest must be 2
abbrev pub is_two : Option (List ℕ) → Bool
is_two None = false
is_two (Some text) = bytes_eq text (codes "2")

abbrev pub of_version_two : List Line → Result (Unit {0}) DocFault
of_version_two lines = if is_two (header_value lines (codes "Bundle-ManifestVersion")) then Ok tt else Err (Header BadManifestVersion)

abbrev pub first_of : {T : Type 0} → List T → Option T
first_of [] = None
first_of (x ∷ xs) = Some x

-- the first path of the first clause
abbrev pub first_path : Clauses → Option (List ℕ)
first_path clauses = option_and_then (λ (c : Clause). first_of c.paths) (first_of clauses.list)

abbrev pub name_in : List Line → Result (List ℕ) DocFault
name_in lines = or_fault (Header MissingName) (option_and_then first_path (option_and_then clauses_of (header_value lines (codes "Bundle-SymbolicName"))))

abbrev pub version_or_empty : Option (List ℕ) → Result Version DocFault
version_or_empty None = Ok empty_version
version_or_empty (Some text) = with_version_fault (version_of text)

-- the version, by default 0.0.0
abbrev pub version_in : List Line → Result Version DocFault
version_in lines = version_or_empty (header_value lines (codes "Bundle-Version"))

abbrev pub named : Option (List ℕ) → List (List ℕ)
named None = []
named (Some text) = items_of text

-- the names of the entries that are descriptions, by default none
abbrev pub listed_in : List Line → Listed
listed_in lines = Named (named (header_value lines (codes "Service-Component")))

-- what a manifest's headers say
abbrev pub headers_in : List Line → Result Headers DocFault
headers_in lines =
    after (of_version_two lines) (λ _.
    after (name_in lines) (λ name.
    after (version_in lines) (λ version.
    Ok (record {
      name = name;
      version = version;
      manifest = Some lines;
      activator = header_value lines (codes "Bundle-Activator");
      listed = listed_in lines;
    }))))

-- without a manifest the location is the name, the version 0.0.0, and every entry a description
abbrev pub headers_of : List ℕ → Option (List ℕ) → Result Headers DocFault
headers_of location None = Ok (record { name = location; version = empty_version; manifest = None; activator = None; listed = Every })
headers_of location (Some text) = after (with_header_fault (manifest_of text)) headers_in
