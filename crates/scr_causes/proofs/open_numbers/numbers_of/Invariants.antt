use Rattle.std.proofs.Common.{◌≡◌, map, take}
use Rattle.component_state.specs.declared.open_period.OpenPeriod.{OpenPeriod}
use Rattle.scr_causes.proofs.open_numbers.numbers_of.Given as goal

abbrev pub invariant-loop-period : goal.invariant-loop-period
invariant-loop-period l = l.numbers.items ≡ map (λ (p : OpenPeriod). p.configuration) (take l.period-index l.periods)
