-- What a command makes of the needs and offers that are kept. OSGi Core 8, chapter 4, "Installing Bundles", "Updating Bundles", "Uninstalling Bundles".
use Rattle.std.specs.Prelude.{◌≡◌, ◌==◌, ℕ, List, [], ◌∷◌, ◌++◌, filter, map, not, Result, if◌then◌else◌}
use Rattle.bundle_wiring.specs.declared.fault.WireFault.{WireFault}
use Rattle.bundle_wiring.specs.declared.wiring.Wiring.{Wiring}
use Rattle.kept_wirings.specs.DocumentWirings.{manifest_wiring}
use Rattle.kept_wirings.specs.WiringRows.{WiringRow, rows_of}
use Rattle.kept_wirings.specs.declared.wiring_changes.WiringChange.{WiringChange}
use Rattle.kept_wirings.specs.declared.wiring_changes.WiringChange.TheVariants.{Same, Installed, Updated, Uninstalled}
use Rattle.scr_world.specs.Tables.{documents_by}
use Rattle.scr_world.specs.declared.command.Command.{Command}
use Rattle.scr_world.specs.declared.command.Command.TheVariants.{Install, Update, Uninstall}
use Rattle.scr_world.specs.declared.contents.Contents.{Contents}
use Rattle.scr_world.specs.declared.step.Step.{Step}

-- the row of this bundle is another
abbrev pub reread : ℕ → Result Wiring WireFault → WiringRow → WiringRow
reread bundle read row = if row.0 == bundle then (bundle, read) else row

-- the rows without that of this bundle
abbrev pub without : ℕ → List WiringRow → List WiringRow
without bundle rows = filter (λ (row : WiringRow). not (row.0 == bundle)) rows

abbrev pub with_wiring_change : WiringChange → List WiringRow → List WiringRow
with_wiring_change Same rows = rows
with_wiring_change (Installed bundle read) rows = rows ++ (bundle, read) ∷ []
with_wiring_change (Updated bundle read) rows = map (reread bundle read) rows
with_wiring_change (Uninstalled bundle) rows = without bundle rows

-- a change makes of the rows of any documents those of the documents after a step, where the next bundle has this number
abbrev pub IsChangeBy : Step → ℕ → WiringChange → Type 0
IsChangeBy step next change = (cs : List Contents) → rows_of (documents_by step next cs) ≡ with_wiring_change change (rows_of cs)

-- what only code and proofs need: the rows after a command
abbrev pub rows_by_command : Command → ℕ → List WiringRow → List WiringRow
rows_by_command (Install doc) next rows = rows ++ (next, manifest_wiring doc.manifest) ∷ []
rows_by_command (Update bundle doc) next rows = map (reread bundle (manifest_wiring doc.manifest)) rows
rows_by_command (Uninstall bundle) next rows = without bundle rows
rows_by_command _ next rows = rows
