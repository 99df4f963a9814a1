use Rattle.std.proofs.Common.{◌≡◌, ◌++◌, map, take, Bor}
use Rattle.service_registry.specs.declared.row.ServiceRow.{ServiceRow}
use Rattle.scr_readers.proofs.services.push_direct.Given as goal

abbrev pub invariant-loop-row : goal.invariant-loop-row
invariant-loop-row l = map (λ (r : Bor ServiceRow). r.now) l.listed.items ≡ map (λ (r : Bor ServiceRow). r.now) l.initial.listed.items ++ take l.row-index l.rows
