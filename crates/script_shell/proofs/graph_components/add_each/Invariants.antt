use Rattle.std.proofs.Common.{◌≡◌, ◌++◌, take}
use Rattle.platform_hall.specs.Platforms.{world}
use Rattle.script_shell.specs.Graphs.{components_drawn}
use Rattle.script_shell.proofs.graph_components.add_each.Given as goal

abbrev pub invariant-loop-row : goal.invariant-loop-row
invariant-loop-row l = l.lines.items ≡ l.initial.lines.items ++ components_drawn (world l.core) (take l.row-index l.rows)
