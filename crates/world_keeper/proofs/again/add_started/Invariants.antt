use Rattle.std.proofs.Common.{◌≡◌, ◌++◌, drop, map}
use Rattle.std.specs.Prelude.{filter}
use Rattle.world_keeper.specs.Again.{is_started, start_of}
use Rattle.world_keeper.proofs.again.add_started.Given as goal

-- the changes so far and those that are left
abbrev pub invariant-loop-bundle : goal.invariant-loop-bundle
invariant-loop-bundle l = l.changes.items ++ map start_of (filter is_started (drop l.bundle-index l.bundles)) ≡ l.fn.changes.items ++ map start_of (filter is_started l.bundles)
