use Rattle.std.proofs.Common.{◌≡◌, drop, filter}
use Rattle.wb_filters.specs.Chains.{first, is_on_way, services}
use Rattle.wb_filters.proofs.filters.first.Given as goal

abbrev pub invariant-loop-filter : goal.invariant-loop-filter
invariant-loop-filter l = first (services (filter (is_on_way l.context l.rest) l.filters)) ≡ first (services (filter (is_on_way l.context l.rest) (drop l.filter-index l.filters)))
