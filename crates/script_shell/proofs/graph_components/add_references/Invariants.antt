use Rattle.std.proofs.Common.{◌≡◌, ◌++◌, take}
use Rattle.std.specs.Prelude.{flat_map}
use Rattle.script_shell.specs.Graphs.{reference_arrows}
use Rattle.script_shell.proofs.graph_components.add_references.Given as goal

abbrev pub invariant-loop-reference : goal.invariant-loop-reference
invariant-loop-reference l = l.lines.items ≡ l.initial.lines.items ++ flat_map (reference_arrows l.open_now l.number l.held) (take l.reference-index l.references)
