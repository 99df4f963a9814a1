use Rattle.std.proofs.Common.{◌≡◌, take}
use Rattle.script_shell.specs.Graphs.{held_for}
use Rattle.script_shell.proofs.graph_holds.held_for.Given as goal

abbrev pub invariant-loop-line : goal.invariant-loop-line
invariant-loop-line l = l.services.items ≡ held_for l.name (take l.line-index l.held)
