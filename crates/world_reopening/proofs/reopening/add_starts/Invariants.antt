use Rattle.std.proofs.Common.{◌≡◌, ◌+◌, ◌++◌, drop}
use Rattle.world_reopening.specs.Reopening.{starts_from}
use Rattle.world_reopening.proofs.reopening.add_starts.Given as goal

-- the starts so far and those that are left
abbrev pub invariant-loop-place : goal.invariant-loop-place
invariant-loop-place l = l.commands.items ++ starts_from (l.place + 1) (drop l.place l.bundles) ≡ l.fn.commands.items ++ starts_from 1 l.bundles
