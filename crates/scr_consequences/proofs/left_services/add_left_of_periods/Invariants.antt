use Rattle.std.proofs.Common.{◌≡◌, ◌++◌, take}
use Rattle.std.specs.List.{All}
use Rattle.std.specs.Prelude.{filter}
use Rattle.component_state.specs.Rows.{rows_of}
use Rattle.scr_consequences.specs.Lefts.{has_left}
use Rattle.scr_consequences.specs.Moves.{HasRowThere}
use Rattle.scr_consequences.proofs.left_services.add_left_of_periods.Given as goal

abbrev pub invariant-loop-period : goal.invariant-loop-period
invariant-loop-period l = record {
  found : l.left.items ≡ l.initial.left.items ++ filter (has_left l.now) (rows_of (take l.period-index l.periods));
  there : All (HasRowThere l.now) l.rest;
}
