-- What the needs and offers that are kept have to do with documents. Our own.
use Rattle.std.specs.Prelude.{◌≡◌, ◌<◌, ℕ, List, map, vec_capacity, vec_len}
use Rattle.kept_wirings.specs.WiringRows.{WiringRow, fault_in, part_in, rows_of}
use Rattle.kept_wirings.specs.declared.kept_wirings.KeptWirings.{KeptWirings}
use Rattle.kept_wirings.specs.declared.wiring_changes.WiringChange.{WiringChange}
use Rattle.kept_wirings.specs.declared.wiring_changes.WiringChange.TheVariants.{Same, Installed, Updated, Uninstalled}
use Rattle.scr_world.specs.declared.contents.Contents.{Contents}

-- what is kept is these rows
pub record AreRowsOf (rows : List WiringRow) (k : KeptWirings) : Type 0 where
  pub bundles : k.bundles.items ≡ map part_in rows
  pub faults : k.faults.items ≡ map fault_in rows

-- what is kept is what the manifests in these documents say
abbrev pub AreKept : List Contents → KeptWirings → Type 0
AreKept cs k = AreRowsOf (rows_of cs) k

-- a bundle that comes has its place
abbrev pub HasRoom : WiringChange → KeptWirings → Type 0
HasRoom Same k = Unit {0}
HasRoom (Installed bundle read) k = (vec_len k.bundles < vec_capacity k.bundles) × (vec_len k.faults < vec_capacity k.faults)
HasRoom (Updated bundle read) k = Unit {0}
HasRoom (Uninstalled bundle) k = Unit {0}
