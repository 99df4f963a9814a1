use Rattle.std.proofs.Common.{◌≡◌, take}
use Rattle.component_state.proofs.pass_steps.copied.Given as goal

abbrev pub invariant-loop-period : goal.invariant-loop-period
invariant-loop-period l = l.copies.items ≡ take l.period-index l.periods
