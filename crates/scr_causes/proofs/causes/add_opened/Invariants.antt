use Rattle.std.proofs.Common.{◌≡◌, ◌++◌, map, take}
use Rattle.component_state.specs.Rows.{rows_of}
use Rattle.scr_causes.proofs.causes.add_opened.Given as goal

abbrev pub invariant-loop-period : goal.invariant-loop-period
invariant-loop-period l = map (λ r. r.now) l.rows.items ≡ map (λ r. r.now) l.fn.rows.items ++ rows_of (take l.period-index l.periods)
