use Rattle.std.proofs.Common.{map, take}
use Rattle.scr_causes.specs.ServiceTables.{AreOf}
use Rattle.scr_causes.proofs.service_table.entries_of.Given as goal

abbrev pub invariant-loop-row : goal.invariant-loop-row
invariant-loop-row l = AreOf (map (λ r. r.now) (take l.row-index l.rows)) l.entries.items
