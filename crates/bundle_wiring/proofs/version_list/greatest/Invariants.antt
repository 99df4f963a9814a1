use Rattle.std.proofs.Common.{◌≡◌, drop}
use Rattle.std.specs.Prelude.{fold}
use Rattle.bundle_wiring.specs.Wirings.{greatest, later_of}
use Rattle.bundle_wiring.proofs.version_list.greatest.Given as goal

abbrev pub invariant-loop-version : goal.invariant-loop-version
invariant-loop-version l = fold later_of l.best (drop l.version-index l.versions) ≡ greatest l.versions
