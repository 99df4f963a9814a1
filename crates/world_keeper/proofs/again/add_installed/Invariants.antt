use Rattle.std.proofs.Common.{◌≡◌, ◌++◌, drop, map}
use Rattle.world_keeper.specs.Again.{installed}
use Rattle.world_keeper.proofs.again.add_installed.Given as goal

-- the changes so far and those that are left
abbrev pub invariant-loop-bundle : goal.invariant-loop-bundle
invariant-loop-bundle l = l.changes.items ++ map installed (drop l.bundle-index l.bundles) ≡ l.fn.changes.items ++ map installed l.bundles
