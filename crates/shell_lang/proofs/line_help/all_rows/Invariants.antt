use Rattle.std.proofs.Common.{◌≡◌, ◌++◌, drop}
use Rattle.std.specs.Prelude.{map}
use Rattle.shell_lang.specs.Help.{told}
use Rattle.shell_lang.proofs.line_help.all_rows.Given as goal

-- what is told so far and of the rows that are left
abbrev pub invariant-loop-row : goal.invariant-loop-row
invariant-loop-row l = l.found.items ++ map told (map (λ r. (r.0.now, r.1.now)) (drop l.row-index l.rows)) ≡ map told (map (λ r. (r.0.now, r.1.now)) l.rows)
