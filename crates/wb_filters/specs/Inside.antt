-- Words that the search behind a filter asks for. Our own.
use Rattle.std.specs.Prelude.{ℕ, ◌==◌, ◌&&◌, List, Bool}
use Rattle.wb_context.specs.declared.context.Context.{Context}
use Rattle.wb_filters.specs.declared.board_service.BoardService.{BoardService}
use Rattle.wb_filters.specs.Chains.{is_on_way}

-- it is the filter of a number, and on the way
abbrev pub is_it : Context → List ℕ → ℕ → BoardService → Bool
is_it c rest n f = (f.service == n) && is_on_way c rest f
