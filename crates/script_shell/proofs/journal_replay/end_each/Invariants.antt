use Rattle.std.proofs.Common.{◌≡◌}
use Rattle.script_shell.specs.Replays.{with_ended}
use Rattle.script_shell.proofs.Mapped.{mapped}
use Rattle.script_shell.proofs.journal_replay.end_each.Given as goal

abbrev pub invariant-loop-one : goal.invariant-loop-one
invariant-loop-one l = l.living ≡ mapped (with_ended l.turn l.outcome) l.one-index l.initial.living
