use Rattle.std.proofs.Common.{◌≡◌, ◌++◌, drop}
use Rattle.std.specs.Prelude.{map}
use Rattle.bundle_wiring.specs.Standings.{all_standing, standing_of}
use Rattle.bundle_wiring.proofs.standings.stands_of.Given as goal

abbrev pub invariant-loop-home : goal.invariant-loop-home
invariant-loop-home l = map standing_of l.stands.items ++ all_standing l.left l.table l.home (drop l.home l.bundles) ≡ all_standing l.left l.table 0 l.bundles
