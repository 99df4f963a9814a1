use Rattle.std.proofs.Common.{◌≡◌, map, take, Bor}
use Rattle.service_registry.specs.declared.row.ServiceRow.{ServiceRow}
use Rattle.scr_readers.proofs.services.copied.Given as goal

abbrev pub invariant-loop-row : goal.invariant-loop-row
invariant-loop-row l = l.copies.items ≡ map (λ (r : Bor ServiceRow). r.now) (take l.row-index l.rows)
