use Rattle.std.proofs.Common.{◌≡◌, ◌++◌, drop}
use Rattle.std.specs.Prelude.{map}
use Rattle.bundle_wiring.specs.Resolution.{Bundle}
use Rattle.bundle_wiring.specs.Standings.{left_from, left_of}
use Rattle.bundle_wiring.proofs.resolving.numbers_of.Given as goal

abbrev pub invariant-loop-home : goal.invariant-loop-home
invariant-loop-home l = l.numbers.items ++ map (λ (b : Bundle). b.0) (left_from l.home l.left (drop l.home l.bundles)) ≡ map (λ (b : Bundle). b.0) (left_of l.left l.bundles)
