use Rattle.std.proofs.Common.{◌≡◌, ◌++◌, map, take, Bor}
use Rattle.component_state.specs.Rows.{rows_of}
use Rattle.service_registry.specs.declared.row.ServiceRow.{ServiceRow}
use Rattle.scr_readers.proofs.services.push_opened.Given as goal

abbrev pub invariant-loop-period : goal.invariant-loop-period
invariant-loop-period l = map (λ (r : Bor ServiceRow). r.now) l.listed.items ≡ map (λ (r : Bor ServiceRow). r.now) l.initial.listed.items ++ rows_of (take l.period-index l.periods)
