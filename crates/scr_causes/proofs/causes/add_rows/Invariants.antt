use Rattle.std.proofs.Common.{◌≡◌, ◌++◌, map, take}
use Rattle.scr_causes.proofs.causes.add_rows.Given as goal

abbrev pub invariant-loop-row : goal.invariant-loop-row
invariant-loop-row l = map (λ r. r.now) l.rows.items ≡ map (λ r. r.now) l.fn.rows.items ++ take l.row-index l.more
