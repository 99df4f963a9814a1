use Rattle.std.proofs.Common.{◌≡◌, ◌++◌, drop}
use Rattle.std.specs.Prelude.{map}
use Rattle.wb_filters.specs.BoardServices.{service_by}
use Rattle.wb_filters.proofs.board_service.best_by.Given as goal

abbrev pub invariant-loop-row : goal.invariant-loop-row
invariant-loop-row l = l.services.items ++ map (service_by l.key) (drop l.row-index l.rows) ≡ map (service_by l.key) l.rows
