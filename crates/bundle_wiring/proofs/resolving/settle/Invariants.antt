use Rattle.std.proofs.Common.{◌≡◌, length}
use Rattle.std.specs.Prelude.{filter, map}
use Rattle.bundle_wiring.specs.Standings.{HoldsConsistent, all_standing, standing_of}
use Rattle.bundle_wiring.proofs.resolving.settle.Given as goal

abbrev pub invariant-rounds : goal.invariant-rounds
invariant-rounds l = record {
  stand : map standing_of l.stands.items ≡ all_standing l.left.items l.table 0 l.bundles;
  holds : HoldsConsistent l.bundles l.left.items;
}

abbrev pub decreases-rounds : goal.decreases-rounds
decreases-rounds l = length (filter (λ b. b) l.left.items)
