use Rattle.std.proofs.Common.{◌≡◌, take}
use Rattle.std.specs.Prelude.{filter}
use Rattle.service_registry.specs.declared.row.ServiceRow.{ServiceRow}
use Rattle.component_state.proofs.plain_passes.direct_ones.Given as goal

abbrev pub invariant-loop-service : goal.invariant-loop-service
invariant-loop-service l = l.found.items ≡ filter (λ (r : ServiceRow). r.direct) (take l.service-index l.services)
