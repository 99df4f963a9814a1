use Rattle.std.proofs.Common.{◌≡◌, ◌++◌, map, take}
use Rattle.script_shell.specs.Graphs.{hold_arrow}
use Rattle.script_shell.proofs.graph_holds.add_arrows.Given as goal

abbrev pub invariant-loop-service : goal.invariant-loop-service
invariant-loop-service l = l.lines.items ≡ l.initial.lines.items ++ map (hold_arrow l.open_now l.number l.name) (take l.service-index l.services)
