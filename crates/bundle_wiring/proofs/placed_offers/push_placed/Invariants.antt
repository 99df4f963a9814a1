use Rattle.std.proofs.Common.{◌≡◌, ◌++◌, drop}
use Rattle.std.specs.Prelude.{map}
use Rattle.bundle_wiring.specs.Placing.{homed_from, homed_of}
use Rattle.bundle_wiring.proofs.placed_offers.push_placed.Given as goal

abbrev pub invariant-loop-place : goal.invariant-loop-place
invariant-loop-place l = map homed_of l.placed.items ++ homed_from l.home l.to l.place (drop l.place l.offers) ≡ map homed_of l.initial.placed.items ++ homed_from l.home l.to 0 l.offers
