-- What a manifest says of its bundle's needs and offers. OSGi Core 8, chapter 3 "Module Layer": "Import-Package Header", "Export-Package Header",
-- "Require-Capability Header", "Provide-Capability Header". The order of the faults is our own.
use Rattle.std.specs.Prelude.{ℕ, ◌==◌, List, [], ◌∷◌, ◌++◌, codes, map, fold, find, Bool, true, false, Option, Some, None, option_and_then, option_map, Result, Ok, Err, if◌then◌else◌}
use Rattle.std.specs.List.{slice_split}
use Rattle.std.specs.Option.{unwrap_or}
use Rattle.std.specs.Ordering.{is_lt}
use Rattle.std.specs.Str.{bytes_eq}
use Rattle.bundle_headers.specs.Headers.{Header, header_value}
use Rattle.bundle_headers.specs.declared.clauses.Clause.{Clause}
use Rattle.bundle_headers.specs.declared.clauses.Clauses.{Clauses}
use Rattle.ldap_filter.specs.Texts.{reading as filter_reading}
use Rattle.ldap_filter.specs.Trees.{Tree}
use Rattle.osgi_version.specs.Versions.{empty_version, version_cmp}
use Rattle.osgi_version.specs.declared.range.VersionRange.{VersionRange}
use Rattle.osgi_version.specs.declared.version.Version.{Version}
use Rattle.prop_map.specs.declared.properties.Property.{Property}
use Rattle.prop_map.specs.declared.value.Value.TheVariants.{Text}
use Rattle.prop_map.specs.Maps.{put}
use Rattle.text_index.specs.Texts.{has_text}
use Rattle.prop_map.specs.Words.{after}
use Rattle.bundle_wiring.specs.Faults.{fault_at}
use Rattle.bundle_wiring.specs.Texts.{clauses_reading, range_reading, version_of, version_reading}
use Rattle.bundle_wiring.specs.declared.fault.WireFault.{WireFault}
use Rattle.bundle_wiring.specs.declared.fault.WireFault.TheVariants.{BadClause, BadFilter, BadVersion, DuplicateImport}
use Rattle.bundle_wiring.specs.declared.wiring.Offer.{Offer}
use Rattle.bundle_wiring.specs.declared.wiring.WireNeed.{WireNeed}
use Rattle.bundle_wiring.specs.declared.wiring.Wiring.{Wiring}

-- the value of the first pair with this name
abbrev pub value_of : List (List ℕ × List ℕ) → List ℕ → Option (List ℕ)
value_of pairs name = option_map (λ p. p.1) (find (λ p. bytes_eq p.0 name) pairs)

abbrev pub is_text : List ℕ → Option (List ℕ) → Bool
is_text wanted None = false
is_text wanted (Some text) = bytes_eq text wanted

-- `resolution:=optional`
abbrev pub is_optional : Clause → Bool
is_optional clause = is_text (codes "optional") (value_of clause.directives (codes "resolution"))

abbrev pub is_resolve : Option (List ℕ) → Bool
is_resolve None = true
is_resolve (Some text) = bytes_eq text (codes "resolve")

-- `effective:=resolve`, as it is by default
abbrev pub is_effective : Clause → Bool
is_effective clause = is_resolve (value_of clause.directives (codes "effective"))

abbrev pub some_ok : {A : Type 0} → Result A WireFault → Result (Option A) WireFault
some_ok (Ok a) = Ok (Some a)
some_ok (Err fault) = Err fault

-- ---- imported packages

abbrev pub range_or_none : Option (List ℕ) → Result (Option VersionRange) WireFault
range_or_none None = Ok None
range_or_none (Some text) = some_ok (fault_at BadVersion (range_reading text))

abbrev pub range_in : Clause → Result (Option VersionRange) WireFault
range_in clause = range_or_none (value_of clause.attributes (codes "version"))

abbrev pub import_of : Clause → Option VersionRange → List ℕ → WireNeed
import_of clause range name = record { name = name; «package» = true; range = range; filter = None; optional = is_optional clause }

abbrev pub imports_of : Clause → Option VersionRange → List WireNeed
imports_of clause range = if is_effective clause then map (import_of clause range) clause.paths else []

-- packages that were imported, and then these; or the first of these that was imported already
abbrev pub with_packages : List (List ℕ) → List (List ℕ) → Result (List (List ℕ)) WireFault
with_packages packages [] = Ok packages
with_packages packages (path ∷ paths) = if has_text packages path then Err (DuplicateImport path) else with_packages (packages ++ path ∷ []) paths

-- the needs of these clauses behind those that were read, by the packages that were imported before
abbrev pub imports_after : List (List ℕ) → List WireNeed → List Clause → Result (List WireNeed) WireFault
imports_after packages needs [] = Ok needs
imports_after packages needs (clause ∷ clauses) =
    after (range_in clause) (λ range.
    after (with_packages packages clause.paths) (λ more.
    imports_after more (needs ++ imports_of clause range) clauses))

-- ---- required capabilities

abbrev pub filter_or_none : Option (List ℕ) → Result (Option Tree) WireFault
filter_or_none None = Ok None
filter_or_none (Some text) = some_ok (fault_at BadFilter (filter_reading text))

abbrev pub filter_in : Clause → Result (Option Tree) WireFault
filter_in clause = filter_or_none (value_of clause.directives (codes "filter"))

abbrev pub requirement_of : Clause → Option Tree → List ℕ → WireNeed
requirement_of clause filter name = record { name = name; «package» = false; range = None; filter = filter; optional = is_optional clause }

abbrev pub requirements_of : Clause → Option Tree → List WireNeed
requirements_of clause filter = if is_effective clause then map (requirement_of clause filter) clause.paths else []

abbrev pub requirements_after : List WireNeed → List Clause → Result (List WireNeed) WireFault
requirements_after needs [] = Ok needs
requirements_after needs (clause ∷ clauses) = after (filter_in clause) (λ filter. requirements_after (needs ++ requirements_of clause filter) clauses)

-- ---- versions of packages and of capabilities

abbrev pub version_or_empty : Option (List ℕ) → Result Version WireFault
version_or_empty None = Ok empty_version
version_or_empty (Some text) = fault_at BadVersion (version_reading text)

-- the version of a package, by default 0.0.0
abbrev pub version_in : Clause → Result Version WireFault
version_in clause = version_or_empty (value_of clause.attributes (codes "version"))

-- the versions of these texts behind those before; nothing where a text spells none
abbrev pub versions_after : List Version → List (List ℕ) → Option (List Version)
versions_after versions [] = Some versions
versions_after versions (text ∷ texts) = option_and_then (λ version. versions_after (versions ++ version ∷ []) texts) (version_of text)

-- the versions between the commas of a text, one where there is no comma: the attribute types `Version` and `List<Version>`; none where it is no such list
abbrev pub versions_listed : List ℕ → List Version
versions_listed text = unwrap_or (versions_after [] (slice_split (λ b. b == 44) text)) []

abbrev pub versions_or_empty : Option (List ℕ) → List Version
versions_or_empty None = empty_version ∷ []
versions_or_empty (Some text) = versions_listed text

-- a package has one version, a capability those that its attribute `version` lists, by default 0.0.0
abbrev pub versions_in : Bool → Clause → Result (List Version) WireFault
versions_in true clause = after (version_in clause) (λ version. Ok (version ∷ []))
versions_in false clause = Ok (versions_or_empty (value_of clause.attributes (codes "version")))

abbrev pub later_of : Version → Version → Version
later_of version other = if is_lt (version_cmp version other) then other else version

-- the greatest of several versions, 0.0.0 of none
abbrev pub greatest : List Version → Version
greatest versions = fold later_of empty_version versions

-- ---- exported packages and provided capabilities

abbrev pub with_attribute : List Property → List ℕ × List ℕ → List Property
with_attribute properties attribute = put properties attribute.0 (Text attribute.1)

-- attributes as properties, each a text; of one key the last stays
abbrev pub properties_of : List (List ℕ × List ℕ) → List Property
properties_of attributes = fold with_attribute [] attributes

-- a package has no attributes
abbrev pub attributes_in : Bool → Clause → List Property
attributes_in true clause = []
attributes_in false clause = properties_of clause.attributes

abbrev pub offer_of : Bool → Clause → List Version → List ℕ → Offer
offer_of is_package clause versions name =
    record { name = name; «package» = is_package; version = greatest versions; versions = versions; attributes = attributes_in is_package clause }

abbrev pub offers_of : Bool → Clause → List Version → List Offer
offers_of is_package clause versions = map (offer_of is_package clause versions) clause.paths

abbrev pub offers_after : Bool → List Offer → List Clause → Result (List Offer) WireFault
offers_after is_package offers [] = Ok offers
offers_after is_package offers (clause ∷ clauses) = after (versions_in is_package clause) (λ versions. offers_after is_package (offers ++ offers_of is_package clause versions) clauses)

-- ---- the whole manifest

abbrev pub clauses_or_none : Option (List ℕ) → Result Clauses WireFault
clauses_or_none None = Ok (record { list = [] })
clauses_or_none (Some text) = fault_at BadClause (clauses_reading text)

-- the clauses of a header, none where it isn't there
abbrev pub clauses_in : List Header → List ℕ → Result Clauses WireFault
clauses_in headers name = clauses_or_none (header_value headers name)

abbrev pub imports_in : List Header → Result (List WireNeed) WireFault
imports_in headers = after (clauses_in headers (codes "Import-Package")) (λ clauses. imports_after [] [] clauses.list)

abbrev pub needs_in : List Header → Result (List WireNeed) WireFault
needs_in headers = after (imports_in headers) (λ needs. after (clauses_in headers (codes "Require-Capability")) (λ clauses. requirements_after needs clauses.list))

abbrev pub exports_in : List Header → Result (List Offer) WireFault
exports_in headers = after (clauses_in headers (codes "Export-Package")) (λ clauses. offers_after true [] clauses.list)

abbrev pub offers_in : List Header → Result (List Offer) WireFault
offers_in headers = after (exports_in headers) (λ offers. after (clauses_in headers (codes "Provide-Capability")) (λ clauses. offers_after false offers clauses.list))

-- the needs and the offers of a bundle with these headers, or the first fault
abbrev pub wiring_of : List Header → Result Wiring WireFault
wiring_of headers = after (needs_in headers) (λ needs. after (offers_in headers) (λ offers. Ok (record { needs = needs; offers = offers })))
