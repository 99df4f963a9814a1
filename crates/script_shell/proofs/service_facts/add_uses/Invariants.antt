use Rattle.std.proofs.Common.{◌≡◌, ◌++◌, map, take}
use Rattle.script_shell.specs.ServiceFacts.{use_fact}
use Rattle.script_shell.proofs.service_facts.add_uses.Given as goal

abbrev pub invariant-loop-row : goal.invariant-loop-row
invariant-loop-row l = l.facts.items ≡ l.initial.facts.items ++ map use_fact (take l.row-index l.uses)
