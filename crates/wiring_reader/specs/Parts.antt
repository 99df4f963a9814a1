-- The part that each installed bundle takes when bundles resolve together, by the manifest in its document. OSGi Core 8, chapter 3 "Module Layer".
-- That a bundle with a faulty manifest takes none is our own.
use Rattle.std.specs.Prelude.{List, map, Bool, is_some, Result}
use Rattle.bundle_wiring.specs.Resolution.{Bundle}
use Rattle.bundle_wiring.specs.declared.fault.WireFault.{WireFault}
use Rattle.bundle_wiring.specs.declared.wiring.Wiring.{Wiring}
use Rattle.kept_wirings.specs.DocumentWirings.{fault_of, part_of, wiring_in}
use Rattle.scr_world.specs.declared.contents.Contents.{Contents}
use Rattle.wiring_reader.specs.declared.parts.Head.{Head}

abbrev pub is_faulty : Result Wiring WireFault → Bool
is_faulty read = is_some (fault_of read)

abbrev pub bundle_of : Contents → Bundle
bundle_of c = (c.bundle, part_of (wiring_in c))

-- the bundles that are to resolve, in the order of their documents, which is that of their numbers
abbrev pub bundles_of : List Contents → List Bundle
bundles_of cs = map bundle_of cs

-- what only code and proofs need: a bundle, and whether its manifest is faulty
abbrev pub head_of : Contents → Head
head_of c = record { bundle = c.bundle; faulty = is_faulty (wiring_in c) }
