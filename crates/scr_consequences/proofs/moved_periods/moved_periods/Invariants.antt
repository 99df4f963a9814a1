use Rattle.std.proofs.Common.{◌≡◌, ◌++◌, drop}
use Rattle.scr_consequences.specs.Moves.{moved}
use Rattle.scr_consequences.proofs.moved_periods.moved_periods.Given as goal

abbrev pub invariant-loop-period : goal.invariant-loop-period
invariant-loop-period l = moved l.was l.now ≡ l.numbers.items ++ moved (drop l.period-index l.was) l.rest
