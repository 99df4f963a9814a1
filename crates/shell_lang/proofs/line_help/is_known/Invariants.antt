use Rattle.std.proofs.Common.{◌≡◌, drop}
use Rattle.std.specs.Prelude.{map}
use Rattle.std.specs.List.{list_any}
use Rattle.shell_lang.specs.Help.{begins_with}
use Rattle.shell_lang.proofs.line_help.is_known.Given as goal

-- some line depends on the rows that are left
abbrev pub invariant-loop-row : goal.invariant-loop-row
invariant-loop-row l = list_any (begins_with l.word) (map (λ r. (r.0.now, r.1.now)) l.rows) ≡ list_any (begins_with l.word) (map (λ r. (r.0.now, r.1.now)) (drop l.row-index l.rows))
