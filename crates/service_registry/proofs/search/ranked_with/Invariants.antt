use Rattle.std.proofs.Common.{◌≡◌, filter, map, take}
use Rattle.service_registry.specs.Services.{has_interface, ranked}
use Rattle.service_registry.proofs.search.ranked_with.Given as goal

abbrev pub invariant-loop-row : goal.invariant-loop-row
invariant-loop-row l = l.found.items ≡ map ranked (filter (has_interface l.interface) (take l.row-index l.rows))
