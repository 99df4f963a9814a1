use Rattle.std.proofs.Common.{◌≡◌, drop}
use Rattle.std.specs.Prelude.{fold, map}
use Rattle.bundle_wiring.specs.Standings.{standing_of, struck}
use Rattle.bundle_wiring.proofs.standings.strike_lost.Given as goal

abbrev pub invariant-loop-stand : goal.invariant-loop-stand
invariant-loop-stand l = fold (struck l.table) l.left (map standing_of (drop l.stand-index l.stands)) ≡ fold (struck l.table) l.initial.left (map standing_of l.stands)
