use Rattle.std.proofs.Common.{ap, subst, Err}
use Rattle.osgi_version.specs.Readings.{ReadsAs}
use Rattle.osgi_version.specs.Ranges.{SpellsRange}
use Rattle.bundle_wiring.specs.Faults.{fault_at}
use Rattle.bundle_wiring.specs.declared.fault.WireFault.TheVariants.{BadVersion}
use Rattle.bundle_wiring.proofs.Machines.{range_bad, range_ok}
use Rattle.bundle_wiring.proofs.texts.range_of.Goals as goal

pub returns-in-Ok : goal.returns-in-Ok
returns-in-Ok c = ap (fault_at BadVersion) (range_ok c.args.text.now c.in-Ok.range c.in-Ok.ensures)

pub returns-in-Err-BadVersion : goal.returns-in-Err-BadVersion
returns-in-Err-BadVersion c = λ _.
    ap (fault_at BadVersion) (range_bad c.args.text.now c.in-Err-BadVersion.at (subst (λ fault. ReadsAs SpellsRange c.args.text.now (Err fault)) c.in-Err-BadVersion.field-0-is c.in-Err-BadVersion.ensures))
