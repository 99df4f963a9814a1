use Rattle.std.proofs.Common.{◌∙◌, ap}
use Rattle.kept_wirings.specs.WiringChanges.{with_wiring_change}
use Rattle.kept_wirings.specs.WiringRows.{rows_of}
use Rattle.kept_wirings.specs.declared.wiring_changes.WiringChange.{WiringChange}
use Rattle.kept_wirings.specs.declared.wiring_changes.WiringChange.TheVariants.{Installed, Uninstalled, Updated}
use Rattle.kept_wirings.proofs.MadeChanges.{added, alike, removed, replaced, rows_after}
use Rattle.kept_wirings.proofs.kept_wirings.KeptWirings.make.Goals as goal

pub replace-requires : goal.replace-requires
replace-requires c = alike (rows_of c.requires.kept.0) c.args.self.now c.requires.kept.1

pub remove-requires : goal.remove-requires
remove-requires c = alike (rows_of c.requires.kept.0) c.args.self.now c.requires.kept.1

pub returns-in-Same : goal.returns-in-Same
returns-in-Same c = λ before after kept own is. rows_after after (rows_of before) c.args.self.now (is ∙ ap (λ (x : WiringChange). with_wiring_change x (rows_of before)) c.in-Same.is) kept

pub returns-in-Installed : goal.returns-in-Installed
returns-in-Installed c = λ before after kept own is.
    rows_after after (with_wiring_change (Installed c.in-Installed.bundle c.in-Installed.read) (rows_of before)) c.add.new.self
    (is ∙ ap (λ (x : WiringChange). with_wiring_change x (rows_of before)) c.in-Installed.is)
    (added (rows_of before) c.args.self.now c.add.new.self kept c.in-Installed.bundle c.in-Installed.read c.add.ensures.bundles c.add.ensures.faults)

pub returns-in-Updated : goal.returns-in-Updated
returns-in-Updated c = λ before after kept own is.
    rows_after after (with_wiring_change (Updated c.in-Updated.bundle c.in-Updated.read) (rows_of before)) c.replace.new.self
    (is ∙ ap (λ (x : WiringChange). with_wiring_change x (rows_of before)) c.in-Updated.is)
    (replaced (rows_of before) c.args.self.now c.replace.new.self kept c.in-Updated.bundle c.in-Updated.read c.replace.ensures.bundles c.replace.ensures.faults own)

pub returns-in-Uninstalled : goal.returns-in-Uninstalled
returns-in-Uninstalled c = λ before after kept own is.
    rows_after after (with_wiring_change (Uninstalled c.in-Uninstalled.bundle) (rows_of before)) c.remove.new.self
    (is ∙ ap (λ (x : WiringChange). with_wiring_change x (rows_of before)) c.in-Uninstalled.is)
    (removed (rows_of before) c.args.self.now c.remove.new.self kept c.in-Uninstalled.bundle c.remove.ensures.bundles c.remove.ensures.faults own)
