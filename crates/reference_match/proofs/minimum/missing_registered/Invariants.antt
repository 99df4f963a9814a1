use Rattle.std.proofs.Common.{◌≡◌, ◌-◌, filter, length, map, take}
use Rattle.reference_match.specs.Standing.{is_registered}
use Rattle.reference_match.specs.Targets.{meets}
use Rattle.reference_match.proofs.minimum.missing_registered.Given as goal

abbrev pub invariant-loop-one : goal.invariant-loop-one
invariant-loop-one g l = l.left ≡ l.wanted - length (filter (meets l.need) (filter is_registered (map g.R.HasRow.row_of (take l.one-index l.opened))))
