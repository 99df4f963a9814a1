use Rattle.std.proofs.Common.{◌≡◌, ◌++◌, take}
use Rattle.component_state.specs.Inside.Ready.{configurations_open}
use Rattle.scr_consequences.proofs.moved_periods.add_configurations.Given as goal

abbrev pub invariant-loop-period : goal.invariant-loop-period
invariant-loop-period l = l.numbers.items ≡ l.initial.numbers.items ++ configurations_open (take l.period-index l.periods)
