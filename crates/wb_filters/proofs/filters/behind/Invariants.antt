use Rattle.std.proofs.Common.{◌≡◌, drop, filter}
use Rattle.wb_filters.specs.Chains.{behind, is_on_way, services}
use Rattle.wb_filters.proofs.filters.behind.Given as goal

abbrev pub invariant-loop-place : goal.invariant-loop-place
invariant-loop-place l = behind l.number (services (filter (is_on_way l.context l.rest) l.filters)) ≡ behind l.number (services (filter (is_on_way l.context l.rest) (drop l.place l.filters)))
