use Rattle.std.proofs.Common.{◌≡◌, ◌++◌, take}
use Rattle.script_shell.specs.Graphs.{direct_nodes}
use Rattle.script_shell.proofs.graph.add_direct.Given as goal

abbrev pub invariant-loop-row : goal.invariant-loop-row
invariant-loop-row l = l.lines.items ≡ l.initial.lines.items ++ direct_nodes (take l.row-index l.rows)
