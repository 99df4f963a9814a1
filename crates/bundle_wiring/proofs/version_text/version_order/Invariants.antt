use Rattle.std.proofs.Common.{◌≡◌, Some, take}
use Rattle.osgi_version.specs.Readings.{run}
use Rattle.osgi_version.specs.VersionStart.{version_start}
use Rattle.osgi_version.specs.VersionSteps.{version_step}
use Rattle.bundle_wiring.specs.Inside.{LiesWithin, reading_of}
use Rattle.bundle_wiring.proofs.version_text.version_order.Given as goal

-- the steps of the bytes so far lead here
abbrev pub invariant-loop-at : goal.invariant-loop-at
invariant-loop-at l = record {
  led : run version_step version_start (take l.at l.bytes) ≡ Some (reading_of l.bytes l.at l.seen);
  places : LiesWithin l.at l.seen;
}
