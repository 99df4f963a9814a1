use Rattle.std.proofs.Common.{◌≡◌, ◌++◌, drop}
use Rattle.std.specs.Prelude.{map}
use Rattle.bundle_wiring.specs.Standings.{needs_standing, standing_of}
use Rattle.bundle_wiring.proofs.standings.push_stands.Given as goal

abbrev pub invariant-loop-place : goal.invariant-loop-place
invariant-loop-place l =
    map standing_of l.stands.items ++ needs_standing l.left l.table l.home l.from l.place (drop l.place l.needs) ≡ map standing_of l.initial.stands.items ++ needs_standing l.left l.table l.home l.from 0 l.needs
