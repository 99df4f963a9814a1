-- The lines of wiring. Our own form.
use Rattle.std.specs.Prelude.{ℕ, List, ◌++◌, codes}
use Rattle.std.specs.Fmt.{decimal}
use Rattle.bundle_wiring.specs.declared.fault.WireFault.{WireFault}
use Rattle.bundle_wiring.specs.declared.fault.WireFault.TheVariants.{BadClause, BadVersion, BadFilter, DuplicateImport, OutOfMemory}
use Rattle.osgi_version.specs.Versions.{version_text}
use Rattle.wiring_reader.specs.declared.wiring_line.NeedLine.{NeedLine}
use Rattle.wiring_reader.specs.declared.wiring_line.NeedLine.TheVariants.{Wire as WiredNeed, Missing, Optional, Offers, Fault}
use Rattle.wiring_reader.specs.declared.wiring_line.WiringLine.{WiringLine}
use Rattle.wiring_reader.specs.declared.wiring_line.WiringLine.TheVariants.{Resolved, Unresolved, Faulty, Wire}

-- a line of the wiring of all bundles
abbrev pub wiring_text : WiringLine → List ℕ
wiring_text (Resolved bundle) = decimal bundle ++ codes " resolved\n"
wiring_text (Unresolved bundle need) = decimal bundle ++ codes " unresolved " ++ need ++ codes "\n"
wiring_text (Faulty bundle) = decimal bundle ++ codes " faulty\n"
wiring_text (Wire bundle need to) = codes "wire " ++ decimal bundle ++ codes " " ++ need ++ codes " " ++ decimal to ++ codes "\n"

-- a fault of a manifest: its name, and its place or the package
abbrev pub wire_fault_text : WireFault → List ℕ
wire_fault_text (BadClause at) = codes "BadClause " ++ decimal at
wire_fault_text (BadVersion at) = codes "BadVersion " ++ decimal at
wire_fault_text (BadFilter at) = codes "BadFilter " ++ decimal at
wire_fault_text (DuplicateImport «package») = codes "DuplicateImport " ++ «package»
wire_fault_text OutOfMemory = codes "OutOfMemory"

-- an offer with a text of its version
abbrev pub offered_text : List ℕ → List ℕ → List ℕ
offered_text name version = codes "offers " ++ name ++ codes " " ++ version ++ codes "\n"

-- a line of the wiring of one bundle
abbrev pub need_text : NeedLine → List ℕ
need_text (WiredNeed need to) = need ++ codes " wire " ++ decimal to ++ codes "\n"
need_text (Missing need) = need ++ codes " missing\n"
need_text (Optional need) = need ++ codes " optional\n"
need_text (Offers name version) = offered_text name (version_text version)
need_text (Fault fault) = wire_fault_text fault ++ codes "\n"
