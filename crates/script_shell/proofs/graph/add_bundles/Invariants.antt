use Rattle.std.proofs.Common.{◌≡◌, ◌++◌, map, take}
use Rattle.script_shell.specs.Graphs.{bundle_node}
use Rattle.script_shell.proofs.graph.add_bundles.Given as goal

abbrev pub invariant-loop-row : goal.invariant-loop-row
invariant-loop-row l = l.lines.items ≡ l.initial.lines.items ++ map bundle_node (take l.row-index l.rows)
