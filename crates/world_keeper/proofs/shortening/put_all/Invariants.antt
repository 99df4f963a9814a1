use Rattle.std.proofs.Common.{map, take}
use Rattle.sqlite.specs.Held.{state}
use Rattle.sqlite.specs.Steps.{over_memory}
use Rattle.world_keeper.specs.Lines.{line_of}
use Rattle.world_keeper.specs.Tables.{KeepsLines}
use Rattle.world_keeper.proofs.shortening.put_all.Given as goal

abbrev pub invariant-loop-change : goal.invariant-loop-change
invariant-loop-change l = KeepsLines (state over_memory l.conn) (map line_of (take l.change-index l.changes))
