use Rattle.std.proofs.Common.{◌≡◌, ◌-◌, filter, length, take}
use Rattle.reference_match.specs.Targets.{meets}
use Rattle.reference_match.proofs.minimum.missing.Given as goal

abbrev pub invariant-loop-row : goal.invariant-loop-row
invariant-loop-row l = l.left ≡ l.wanted - length (filter (meets l.need) (take l.row-index l.rows))
