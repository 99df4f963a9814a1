use Rattle.std.proofs.Common.{◌≡◌, ◌++◌, map, take}
use Rattle.script_shell.specs.ServiceFacts.{holder_fact}
use Rattle.script_shell.proofs.service_facts.add_holders.Given as goal

abbrev pub invariant-loop-row : goal.invariant-loop-row
invariant-loop-row l = l.facts.items ≡ l.initial.facts.items ++ map holder_fact (take l.row-index l.holders)
