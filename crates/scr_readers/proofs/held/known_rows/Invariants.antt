use Rattle.std.proofs.Common.{◌≡◌, map, take, Bor}
use Rattle.std.specs.Prelude.{flat_map}
use Rattle.scr_readers.specs.Reaching.{some_row}
use Rattle.scr_world.specs.Worlds.{row_known}
use Rattle.service_registry.specs.declared.row.ServiceRow.{ServiceRow}
use Rattle.scr_readers.proofs.held.known_rows.Given as goal

abbrev pub invariant-loop-service : goal.invariant-loop-service
invariant-loop-service l = map (λ (r : Bor ServiceRow). r.now) l.rows.items ≡ flat_map (λ s. some_row (row_known l.world s)) (take l.service-index l.services)
