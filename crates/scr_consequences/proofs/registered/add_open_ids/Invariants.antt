use Rattle.std.proofs.Common.{◌≡◌, ◌++◌, take}
use Rattle.component_state.specs.Rows.{rows_of}
use Rattle.service_registry.specs.Services.{ids}
use Rattle.scr_consequences.proofs.registered.add_open_ids.Given as goal

abbrev pub invariant-loop-period : goal.invariant-loop-period
invariant-loop-period l = l.numbers.items ≡ l.initial.numbers.items ++ ids (rows_of (take l.period-index l.open_now))
