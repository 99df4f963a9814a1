-- What is told of the wiring of all bundles, and of that of one. OSGi Core 8, chapter 3 "Module Layer", "Resolving Process"; the form is our own.
use Rattle.std.specs.Prelude.{◌≡◌, ℕ, List, [], ◌∷◌, ◌++◌, map, flat_map, filter, Bool, true, false, Option, Some, None, Result, Ok, Err, if◌then◌else◌}
use Rattle.bundle_wiring.specs.ByNeed.{wired_to}
use Rattle.bundle_wiring.specs.Resolution.{Bundle, IsGreatest, missing_need}
use Rattle.bundle_wiring.specs.declared.fault.WireFault.{WireFault}
use Rattle.bundle_wiring.specs.declared.wiring.Offer.{Offer}
use Rattle.bundle_wiring.specs.declared.wiring.WireNeed.{WireNeed}
use Rattle.bundle_wiring.specs.declared.wiring.Wiring.{Wiring}
use Rattle.scr_world.specs.Tables.{contents_of}
use Rattle.scr_world.specs.declared.contents.Contents.{Contents}
use Rattle.kept_wirings.specs.DocumentWirings.{wiring_in}
use Rattle.wiring_reader.specs.Parts.{bundles_of}
use Rattle.wiring_reader.specs.declared.wiring_line.NeedLine.{NeedLine}
use Rattle.wiring_reader.specs.declared.wiring_line.NeedLine.TheVariants.{Wire as WiredNeed, Missing, Optional, Offers, Fault}
use Rattle.wiring_reader.specs.declared.wiring_line.WiringLine.{WiringLine}
use Rattle.wiring_reader.specs.declared.wiring_line.WiringLine.TheVariants.{Resolved, Unresolved, Faulty, Wire}

-- ---- all bundles

-- a bundle resolves where it misses no need
abbrev pub resolved_line : ℕ → Option WireNeed → WiringLine
resolved_line bundle None = Resolved bundle
resolved_line bundle (Some need) = Unresolved bundle need.name

abbrev pub line_by : List Bundle → ℕ → Result Wiring WireFault → WiringLine
line_by set bundle (Ok wiring) = resolved_line bundle (missing_need set (bundle, wiring))
line_by set bundle (Err fault) = Faulty bundle

-- whether a bundle resolves where these do, and else the first need that keeps it from it
abbrev pub bundle_line : List Bundle → Contents → WiringLine
bundle_line set c = line_by set c.bundle (wiring_in c)

abbrev pub is_resolved : WiringLine → Bool
is_resolved (Resolved bundle) = true
is_resolved (Unresolved bundle need) = false
is_resolved (Faulty bundle) = false
is_resolved (Wire bundle need to) = false

abbrev pub wire_line : ℕ → List ℕ → Option ℕ → List WiringLine
wire_line bundle need None = []
wire_line bundle need (Some to) = Wire bundle need to ∷ []

-- the wires of a bundle, by need
abbrev pub wire_lines : List Bundle → Bundle → List WiringLine
wire_lines set b = flat_map (λ (need : WireNeed). wire_line b.0 need.name (wired_to set need)) b.1.needs

-- a line for each bundle, and then one for each wire of those that resolve
abbrev pub wiring_lines : List Bundle → List Contents → List WiringLine
wiring_lines set cs = map (bundle_line set) cs ++ flat_map (wire_lines set) set

-- where the bundles that resolve are the greatest set that can
abbrev pub TellsWiring : List Contents → List WiringLine → Type 0
TellsWiring cs lines = (test : Bundle → Bool) × IsGreatest (bundles_of cs) test × (lines ≡ wiring_lines (filter test (bundles_of cs)) cs)

-- ---- one bundle

abbrev pub unwired_line : WireNeed → NeedLine
unwired_line need = if need.optional then Optional need.name else Missing need.name

-- to whom a need is wired, or would be
abbrev pub need_line : WireNeed → Option ℕ → NeedLine
need_line need None = unwired_line need
need_line need (Some to) = WiredNeed need.name to

abbrev pub offer_line : Offer → NeedLine
offer_line offer = Offers offer.name offer.version

-- a line for each need, where these bundles resolve, and then one for each offer
abbrev pub need_lines : List Bundle → Wiring → List NeedLine
need_lines set wiring = map (λ (need : WireNeed). need_line need (wired_to set need)) wiring.needs ++ map offer_line wiring.offers

-- where the bundles that resolve are the greatest set that can
abbrev pub TellsPart : List Contents → Wiring → List NeedLine → Type 0
TellsPart cs wiring lines = (test : Bundle → Bool) × IsGreatest (bundles_of cs) test × (lines ≡ need_lines (filter test (bundles_of cs)) wiring)

abbrev pub TellsNeeds : List Contents → Result Wiring WireFault → List NeedLine → Type 0
TellsNeeds cs (Ok wiring) lines = TellsPart cs wiring lines
TellsNeeds cs (Err fault) lines = lines ≡ Fault fault ∷ []

-- of a bundle that is installed; of any other nothing
abbrev pub TellsBundle : List Contents → ℕ → Option (List NeedLine) → Type 0
TellsBundle cs bundle None = contents_of cs bundle ≡ None
TellsBundle cs bundle (Some lines) = (c : Contents) × (contents_of cs bundle ≡ Some c) × TellsNeeds cs (wiring_in c) lines
