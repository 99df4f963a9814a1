use Rattle.std.proofs.Common.{◌≡◌, drop}
use Rattle.wb_routes.specs.Choices.{home_in}
use Rattle.wb_routes.proofs.home.home_in.Given as goal

abbrev pub invariant-loop-table : goal.invariant-loop-table
invariant-loop-table l = home_in l.tables l.path ≡ home_in (drop l.table-index l.tables) l.path
