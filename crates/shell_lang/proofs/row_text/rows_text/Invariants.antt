use Rattle.std.proofs.Common.{◌≡◌, ◌++◌, drop, flat_map}
use Rattle.std.specs.String.{string_bytes}
use Rattle.shell_lang.specs.RowTexts.{rows_text}
use Rattle.shell_lang.proofs.row_text.rows_text.Given as goal

-- the text so far and that of the rows that are left
abbrev pub invariant-loop-row : goal.invariant-loop-row
invariant-loop-row g l = string_bytes l.text ++ flat_map g.R.Row.row_text (drop l.row-index l.rows) ≡ rows_text g.R.Row.row_text l.rows
