use Rattle.std.proofs.Common.{◌≡◌, ◌++◌, drop, map}
use Rattle.world_keeper.specs.Again.{configured}
use Rattle.world_keeper.proofs.again.add_configured.Given as goal

-- the changes so far and those that are left
abbrev pub invariant-loop-one : goal.invariant-loop-one
invariant-loop-one l = l.changes.items ++ map configured (drop l.one-index l.configurations) ≡ l.fn.changes.items ++ map configured l.configurations
