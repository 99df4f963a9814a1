-- What the document of a bundle says of its needs and offers, by the manifest in it. OSGi Core 8, chapter 3 "Module Layer".
-- That a bundle with a faulty manifest takes no part is our own.
use Rattle.std.specs.Prelude.{List, [], Option, Some, None, Result, Ok, Err}
use Rattle.bundle_headers.specs.Headers.{Header}
use Rattle.bundle_wiring.specs.Wirings.{wiring_of}
use Rattle.bundle_wiring.specs.declared.fault.WireFault.{WireFault}
use Rattle.bundle_wiring.specs.declared.wiring.Wiring.{Wiring}
use Rattle.scr_world.specs.declared.contents.Contents.{Contents}

abbrev pub no_wiring : Wiring
no_wiring = record { needs = []; offers = [] }

-- without a manifest a bundle needs and offers nothing
unfoldable pub manifest_wiring : Option (List Header) → Result Wiring WireFault
manifest_wiring None = Ok no_wiring
manifest_wiring (Some headers) = wiring_of headers

-- what the document of a bundle says of its needs and offers, or the first fault of its manifest
abbrev pub wiring_in : Contents → Result Wiring WireFault
wiring_in c = manifest_wiring c.document.manifest

-- with a faulty manifest a bundle needs and offers nothing
abbrev pub part_of : Result Wiring WireFault → Wiring
part_of (Ok wiring) = wiring
part_of (Err fault) = no_wiring

abbrev pub fault_of : Result Wiring WireFault → Option WireFault
fault_of (Ok wiring) = None
fault_of (Err fault) = Some fault
