use Rattle.std.proofs.Common.{◌≡◌}
use Rattle.bundle_wiring.specs.Standings.{settled}
use Rattle.bundle_wiring.proofs.Mapped.{mapped}
use Rattle.bundle_wiring.proofs.standings.look_on.Given as goal

abbrev pub invariant-loop-stand : goal.invariant-loop-stand
invariant-loop-stand l = l.stands ≡ mapped (settled l.left l.table) l.stand-index l.initial.stands
