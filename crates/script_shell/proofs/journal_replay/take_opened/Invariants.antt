use Rattle.std.proofs.Common.{◌≡◌, ◌++◌, map, take}
use Rattle.journal_core.specs.declared.entry.Opened.{Opened}
use Rattle.script_shell.proofs.journal_replay.take_opened.Given as goal

abbrev pub invariant-loop-one : goal.invariant-loop-one
invariant-loop-one l = l.open.items ≡ l.initial.open.items ++ map (λ (o : Opened). o.configuration) (take l.one-index l.opened)
