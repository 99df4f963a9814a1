use Rattle.std.proofs.Common.{◌≡◌, ◌++◌, drop, take}
use Rattle.std.specs.Prelude.{◌==◌, filter, not}
use Rattle.service_registry.specs.declared.row.ServiceRow.{ServiceRow}
use Rattle.scr_starting.proofs.remaining_services.without_bundle.Given as goal

abbrev pub invariant-loop-row : goal.invariant-loop-row
invariant-loop-row l = record {
  rows : l.remaining.rows ≡ filter (λ (r : ServiceRow). not (r.bundle == l.bundle)) (take l.row-index l.rows) ++ drop l.row-index l.rows;
  numbered : l.remaining.numbered ≡ l.registry.numbered;
}
