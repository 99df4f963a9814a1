use Rattle.std.proofs.Common.{◌≡◌, Some, take}
use Rattle.osgi_version.specs.Readings.{run}
use Rattle.osgi_version.specs.VersionSteps.{version_step}
use Rattle.osgi_version.specs.declared.version_reading.VersionReading.TheVariants.{Before}
use Rattle.osgi_version.proofs.version.Version.parse.Given as goal

-- the steps of the bytes so far lead here
abbrev pub invariant-loop-at : goal.invariant-loop-at
invariant-loop-at l = run version_step Before (take l.at l.byte-items) ≡ Some l.reading
