use Rattle.std.proofs.Common.{◌≡◌, ◌++◌, drop, map}
use Rattle.bundle_wiring.specs.ByNeed.{wired_of}
use Rattle.bundle_wiring.specs.Standings.{standing_of, wired_at}
use Rattle.bundle_wiring.proofs.by_need.wired_needs.Given as goal

abbrev pub invariant-loop-stand : goal.invariant-loop-stand
invariant-loop-stand l = map wired_of l.wired.items ++ map (wired_at l.table) (map standing_of (drop l.stand-index l.stands)) ≡ map (wired_at l.table) (map standing_of l.stands)
