use Rattle.std.proofs.Common.{◌≡◌, ◌++◌, drop, map}
use Rattle.script_shell.specs.Routes.{failure_line}
use Rattle.script_shell.proofs.routes.push_failures.Given as goal

-- the lines so far and those of the failures that are left
abbrev pub invariant-loop-failure : goal.invariant-loop-failure
invariant-loop-failure l = l.lines.items ++ map failure_line (drop l.failure-index l.failures) ≡ l.initial.lines.items ++ map failure_line l.failures
