use Rattle.std.proofs.Common.{◌≡◌, ◌++◌, take}
use Rattle.std.specs.Prelude.{filter}
use Rattle.scr_consequences.specs.Lefts.{is_left_held}
use Rattle.scr_consequences.proofs.left_services.add_held.Given as goal

abbrev pub invariant-loop-row : goal.invariant-loop-row
invariant-loop-row l = l.held.items ≡ l.initial.held.items ++ filter (is_left_held l.now) (take l.row-index l.rows)
