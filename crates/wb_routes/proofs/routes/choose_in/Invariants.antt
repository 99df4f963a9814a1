use Rattle.std.proofs.Common.{◌≡◌, drop}
use Rattle.wb_routes.specs.Choices.{choice_in}
use Rattle.wb_routes.proofs.routes.choose_in.Given as goal

abbrev pub invariant-loop-table : goal.invariant-loop-table
invariant-loop-table l = choice_in l.tables l.path ≡ choice_in (drop l.table-index l.tables) l.path
