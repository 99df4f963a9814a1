use Rattle.std.proofs.Common.{◌≡◌, take}
use Rattle.std.specs.Prelude.{map}
use Rattle.component_state.specs.Rows.{with_present_properties}
use Rattle.component_state.proofs.present_properties.with_present_properties.Given as goal

abbrev pub invariant-loop-period : goal.invariant-loop-period
invariant-loop-period l = l.after.items ≡ map (with_present_properties l.components) (take l.period-index l.periods)
