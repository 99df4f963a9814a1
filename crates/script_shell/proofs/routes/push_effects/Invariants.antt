use Rattle.std.proofs.Common.{◌≡◌, ◌++◌, drop, map}
use Rattle.script_shell.specs.Routes.{effect_line}
use Rattle.script_shell.proofs.routes.push_effects.Given as goal

-- the lines so far and those of the rows that are left
abbrev pub invariant-loop-row : goal.invariant-loop-row
invariant-loop-row l = l.lines.items ++ map effect_line (drop l.row-index l.rows) ≡ l.initial.lines.items ++ map effect_line l.rows
