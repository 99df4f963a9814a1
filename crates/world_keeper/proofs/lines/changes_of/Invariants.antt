use Rattle.std.proofs.Common.{◌≡◌, List, map, take}
use Rattle.world_keeper.specs.Lines.{Line, change_in}
use Rattle.world_keeper.specs.Tables.{shown}
use Rattle.world_keeper.proofs.lines.changes_of.Given as goal

abbrev pub invariant-loop-row : goal.invariant-loop-row
invariant-loop-row l = (lines : List Line) → l.fn.rows ≡ map shown lines → l.changes.items ≡ map change_in (take l.row-index lines)
