use Rattle.std.proofs.Common.{ap, subst, Err}
use Rattle.osgi_version.specs.Readings.{ReadsAs}
use Rattle.osgi_version.specs.Versions.{SpellsVersion}
use Rattle.bundle_doc.specs.Headers.{with_version_fault}
use Rattle.bundle_doc.proofs.Machines.{version_bad, version_ok}
use Rattle.bundle_doc.proofs.texts.version_of.Goals as goal

pub returns-in-Ok : goal.returns-in-Ok
returns-in-Ok c = ap with_version_fault (version_ok c.args.text.now c.in-Ok.version c.in-Ok.ensures)

pub returns-in-Err-BadVersion : goal.returns-in-Err-BadVersion
returns-in-Err-BadVersion c = λ _.
    ap with_version_fault (version_bad c.args.text.now c.in-Err-BadVersion.at (subst (λ fault. ReadsAs SpellsVersion c.args.text.now (Err fault)) c.in-Err-BadVersion.field-0-is c.in-Err-BadVersion.ensures))
