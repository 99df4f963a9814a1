use Rattle.std.proofs.Common.{ap, subst, sym, Err, Some}
use Rattle.osgi_version.specs.Readings.{ReadsAs}
use Rattle.osgi_version.specs.Versions.{SpellsVersion}
use Rattle.bundle_wiring.proofs.Machines.{version_none, version_some}
use Rattle.bundle_wiring.proofs.version_list.version_of.Goals as goal

pub returns-in-Ok : goal.returns-in-Ok
returns-in-Ok c = sym (version_some c.args.text.now c.in-Ok.version c.in-Ok.ensures)

pub returns-in-Err-BadVersion : goal.returns-in-Err-BadVersion
returns-in-Err-BadVersion c =
    sym (version_none c.args.text.now c.in-Err-BadVersion.field-0-0 (subst (λ fault. ReadsAs SpellsVersion c.args.text.now (Err fault)) c.in-Err-BadVersion.field-0-is c.in-Err-BadVersion.ensures))
