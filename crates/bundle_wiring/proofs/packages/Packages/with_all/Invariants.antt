use Rattle.std.proofs.Common.{◌≡◌, drop}
use Rattle.bundle_wiring.specs.Wirings.{with_packages}
use Rattle.bundle_wiring.proofs.packages.Packages.with_all.Given as goal

abbrev pub invariant-loop-path : goal.invariant-loop-path
invariant-loop-path l = with_packages l.packages (drop l.path-index l.paths) ≡ with_packages l.initial.packages l.paths
