use Rattle.std.proofs.Common.{◌≡◌, take}
use Rattle.world_keeper.specs.KeptWorlds.{kept_by}
use Rattle.world_keeper.specs.declared.kept.Kept.{Kept}
use Rattle.world_keeper.proofs.keeping.kept_of.Given as goal

abbrev pub invariant-loop-change : goal.invariant-loop-change
invariant-loop-change l =
    let kept : Kept = record { bundles = l.bundles.items; configurations = l.configurations.items } in kept ≡ kept_by (take l.change-index l.changes)
