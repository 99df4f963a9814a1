use Rattle.std.proofs.Common.{◌≡◌}
use Rattle.script_shell.specs.Replays.{with_begun}
use Rattle.script_shell.proofs.Mapped.{mapped}
use Rattle.script_shell.proofs.journal_replay.tell.Given as goal

abbrev pub invariant-loop-one : goal.invariant-loop-one
invariant-loop-one l = l.living ≡ mapped (with_begun l.turn l.instance l.callback) l.one-index l.initial.living
