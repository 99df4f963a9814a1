use Rattle.std.proofs.Common.{◌≡◌, ◌++◌, drop}
use Rattle.std.specs.Prelude.{map}
use Rattle.event_handlers.specs.Kept.{handler_of}
use Rattle.event_handlers.proofs.handling.kept.Given as goal

abbrev pub invariant-loop-row : goal.invariant-loop-row
invariant-loop-row l = l.handlers.items ++ map handler_of (drop l.row-index l.rows) ≡ map handler_of l.rows
