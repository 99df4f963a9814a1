use Rattle.std.proofs.Common.{◌≡◌, ◌++◌, drop}
use Rattle.std.specs.Prelude.{map}
use Rattle.wb_routes.specs.Servlets.{servlet_of}
use Rattle.wb_routes.proofs.servlet.servlets_of.Given as goal

abbrev pub invariant-loop-row : goal.invariant-loop-row
invariant-loop-row l = l.servlets.items ++ map servlet_of (drop l.row-index l.rows) ≡ map servlet_of l.rows
