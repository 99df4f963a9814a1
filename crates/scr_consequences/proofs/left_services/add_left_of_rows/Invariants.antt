use Rattle.std.proofs.Common.{◌≡◌, ◌++◌, take}
use Rattle.std.specs.List.{All}
use Rattle.std.specs.Prelude.{filter}
use Rattle.scr_consequences.specs.Lefts.{has_left}
use Rattle.scr_consequences.specs.Moves.{IsThere}
use Rattle.scr_consequences.proofs.left_services.add_left_of_rows.Given as goal

abbrev pub invariant-loop-row : goal.invariant-loop-row
invariant-loop-row l = record {
  found : l.left.items ≡ l.initial.left.items ++ filter (has_left l.now) (take l.row-index l.rows);
  there : All (IsThere l.now) l.rest;
}
