-- What is kept after a change was made.
use Rattle.std.proofs.Common.{◌≡◌, ◌∙◌, ℕ, List, [], ◌∷◌, ◌++◌, ap, sym, subst, length, map, Bool, Option, Result}
use Rattle.std.proofs.lemmas.List.{length-map, map-append}
use Rattle.std.specs.Prelude.{◌==◌, position}
use Rattle.bundle_wiring.specs.Resolution.{Bundle}
use Rattle.bundle_wiring.specs.declared.fault.WireFault.{WireFault}
use Rattle.bundle_wiring.specs.declared.wiring.Wiring.{Wiring}
use Rattle.kept_wirings.specs.DocumentWirings.{fault_of, part_of}
use Rattle.kept_wirings.specs.KeptRows.{AreKept, AreRowsOf}
use Rattle.kept_wirings.specs.Places.{removed_at, set_at}
use Rattle.kept_wirings.specs.WiringChanges.{reread, without}
use Rattle.kept_wirings.specs.WiringRows.{HaveOwnNumbers, WiringRow, fault_in, part_in, rows_of}
use Rattle.kept_wirings.specs.declared.kept_wirings.KeptWirings.{KeptWirings}
use Rattle.kept_wirings.proofs.RowPlaces.{reread_at, without_at}
use Rattle.scr_world.specs.declared.contents.Contents.{Contents}

-- of each bundle there is a fault or none
pub alike : (rows : List WiringRow) (k : KeptWirings) → AreRowsOf rows k → length k.faults.items ≡ length k.bundles.items
alike rows k are = ap length are.faults ∙ (length-map rows fault_in ∙ (sym (length-map rows part_in) ∙ sym (ap length are.bundles)))

-- the rows after are these
pub rows_after : (after : List Contents) (rows : List WiringRow) (k : KeptWirings) → rows_of after ≡ rows → AreRowsOf rows k → AreKept after k
rows_after after rows k is are = subst (λ (those : List WiringRow). AreRowsOf those k) (sym is) are

module _ (rows : List WiringRow) (k n : KeptWirings) (are : AreRowsOf rows k) (bundle : ℕ) where
  abbrev is_bundle : Bundle → Bool
  is_bundle b = b.0 == bundle

  module _ (read : Result Wiring WireFault) where
    pub added : n.bundles.items ≡ k.bundles.items ++ (bundle, part_of read) ∷ [] → n.faults.items ≡ k.faults.items ++ fault_of read ∷ [] → AreRowsOf (rows ++ (bundle, read) ∷ []) n
    added bundles faults = record {
      bundles = bundles ∙ (ap (λ (bs : List Bundle). bs ++ (bundle, part_of read) ∷ []) are.bundles ∙ sym (map-append part_in rows ((bundle, read) ∷ [])));
      faults = faults ∙ (ap (λ (fs : List (Option WireFault)). fs ++ fault_of read ∷ []) are.faults ∙ sym (map-append fault_in rows ((bundle, read) ∷ [])));
    }

    pub replaced : n.bundles.items ≡ set_at (position is_bundle k.bundles.items) (bundle, part_of read) k.bundles.items → n.faults.items ≡ set_at (position is_bundle k.bundles.items) (fault_of read) k.faults.items → HaveOwnNumbers rows
        → AreRowsOf (map (reread bundle read) rows) n
    replaced bundles faults own = record {
      bundles = bundles ∙ (ap (λ (bs : List Bundle). set_at (position is_bundle bs) (bundle, part_of read) bs) are.bundles ∙ sym (reread_at bundle part_in rows own read));
      faults = faults
          ∙ (ap (λ (bs : List Bundle). set_at (position is_bundle bs) (fault_of read) k.faults.items) are.bundles
          ∙ (ap (λ (fs : List (Option WireFault)). set_at (position is_bundle (map part_in rows)) (fault_of read) fs) are.faults ∙ sym (reread_at bundle fault_in rows own read)));
    }

  pub removed : n.bundles.items ≡ removed_at (position is_bundle k.bundles.items) k.bundles.items → n.faults.items ≡ removed_at (position is_bundle k.bundles.items) k.faults.items → HaveOwnNumbers rows → AreRowsOf (without bundle rows) n
  removed bundles faults own = record {
    bundles = bundles ∙ (ap (λ (bs : List Bundle). removed_at (position is_bundle bs) bs) are.bundles ∙ sym (without_at bundle part_in rows own));
    faults = faults
        ∙ (ap (λ (bs : List Bundle). removed_at (position is_bundle bs) k.faults.items) are.bundles
        ∙ (ap (λ (fs : List (Option WireFault)). removed_at (position is_bundle (map part_in rows)) fs) are.faults ∙ sym (without_at bundle fault_in rows own)));
  }
