use Rattle.std.proofs.Common.{◌≡◌, ◌++◌, drop}
use Rattle.std.specs.String.{string_bytes}
use Rattle.shell_lang.specs.RowTexts.{placed_rows_text, placed_text}
use Rattle.shell_lang.proofs.row_text.placed_rows_text.Given as goal

-- the text so far and that of the rows that are left
abbrev pub invariant-loop-row : goal.invariant-loop-row
invariant-loop-row g l = string_bytes l.text ++ placed_text g.R.Row.row_text l.position (drop l.row-index l.rows) ≡ placed_rows_text g.R.Row.row_text l.before l.rows
