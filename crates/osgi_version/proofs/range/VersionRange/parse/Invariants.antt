use Rattle.std.proofs.Common.{◌≡◌, Some, take}
use Rattle.osgi_version.specs.Readings.{run}
use Rattle.osgi_version.specs.RangeSteps.{range_step}
use Rattle.osgi_version.specs.declared.range_reading.RangeReading.TheVariants.{Before}
use Rattle.osgi_version.proofs.range.VersionRange.parse.Given as goal

-- the steps of the bytes so far lead here
abbrev pub invariant-loop-at : goal.invariant-loop-at
invariant-loop-at l = run range_step Before (take l.at l.byte-items) ≡ Some l.reading
