use Rattle.std.proofs.Common.{take}
use Rattle.scr_world.specs.Lists.{world_of}
use Rattle.scr_world.specs.Steps.{history_of}
use Rattle.script_shell.specs.Replays.{IsReplayOf}
use Rattle.script_shell.proofs.journal_replay.replayed.Given as goal

abbrev pub invariant-loop-entry : goal.invariant-loop-entry
invariant-loop-entry l = IsReplayOf (world_of (history_of (take l.entry-index l.entries))) l.replay.open.items l.replay.living.items
