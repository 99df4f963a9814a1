use Rattle.std.proofs.Common.{◌≡◌, drop, map}
use Rattle.bundle_wiring.specs.ByNeed.{wired_of}
use Rattle.wiring_reader.specs.Lines.{missing}
use Rattle.wiring_reader.proofs.missing.missing.Given as goal

abbrev pub invariant-loop-wired : goal.invariant-loop-wired
invariant-loop-wired l = missing (map wired_of (drop l.wired-index l.needs)) ≡ missing (map wired_of l.needs)
