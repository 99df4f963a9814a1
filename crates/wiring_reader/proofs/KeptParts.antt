-- What is kept of bundles is their part when they resolve together.
use Rattle.std.proofs.Common.{◌≡◌, ◌∙◌, ◌<◌, ℕ, List, length, get_or, map, ap, subst, sym, Option}
use Rattle.std.proofs.lemmas.List.{length-map}
use Rattle.bundle_wiring.specs.declared.fault.WireFault.{WireFault}
use Rattle.kept_wirings.specs.DocumentWirings.{fault_of, wiring_in}
use Rattle.kept_wirings.specs.KeptRows.{AreKept}
use Rattle.kept_wirings.specs.WiringRows.{fault_in, part_in, row_of, rows_of}
use Rattle.kept_wirings.specs.declared.kept_wirings.KeptWirings.{KeptWirings}
use Rattle.scr_world.specs.declared.contents.Contents.{Contents}
use Rattle.wiring_reader.specs.Parts.{bundles_of}
use Rattle.wiring_reader.proofs.Pairs.{map_twice}
use Rattle.wiring_reader.proofs.Places.{mapped_at}

-- a fault or none by each document
pub fault_at : (cs : List Contents) (faults : List (Option WireFault)) (place : ℕ) (o : Option WireFault) (c : Contents) → faults ≡ map fault_in (rows_of cs) → place < length cs → o ≡ get_or faults place o → o ≡ fault_of (wiring_in (get_or cs place c))
fault_at cs faults place o c are low is = mapped_at (λ (d : Contents). fault_of (wiring_in d)) cs faults place o c (are ∙ map_twice fault_in row_of cs) low is

module _ (cs : List Contents) (k : KeptWirings) (kept : AreKept cs k) where
  pub bundles_are : k.bundles.items ≡ bundles_of cs
  bundles_are = kept.bundles ∙ map_twice part_in row_of cs

  pub as_many_bundles : length k.bundles.items ≡ length cs
  as_many_bundles = ap length bundles_are ∙ length-map cs (λ (c : Contents). part_in (row_of c))

  pub as_many_faults : length k.faults.items ≡ length cs
  as_many_faults = ap length (kept.faults ∙ map_twice fault_in row_of cs) ∙ length-map cs (λ (c : Contents). fault_in (row_of c))
