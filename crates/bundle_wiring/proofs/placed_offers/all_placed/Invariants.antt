use Rattle.std.proofs.Common.{◌≡◌, ◌++◌, drop}
use Rattle.std.specs.Prelude.{map}
use Rattle.bundle_wiring.specs.Placing.{all_homed, homed_of, homed_of_bundles}
use Rattle.bundle_wiring.proofs.placed_offers.all_placed.Given as goal

abbrev pub invariant-loop-home : goal.invariant-loop-home
invariant-loop-home l = map homed_of l.offers.items ++ homed_of_bundles l.home (drop l.home l.bundles) ≡ all_homed l.bundles
