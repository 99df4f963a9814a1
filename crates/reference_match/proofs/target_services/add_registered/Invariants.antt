use Rattle.std.proofs.Common.{◌≡◌, ◌++◌, filter, map, take}
use Rattle.service_registry.specs.Services.{ranked}
use Rattle.reference_match.specs.Standing.{is_registered}
use Rattle.reference_match.specs.Targets.{meets}
use Rattle.reference_match.proofs.target_services.add_registered.Given as goal

abbrev pub invariant-loop-one : goal.invariant-loop-one
invariant-loop-one g l = l.found.items ≡ l.initial.found.items ++ map ranked (filter (meets l.need) (filter is_registered (map g.R.HasRow.row_of (take l.one-index l.opened))))
