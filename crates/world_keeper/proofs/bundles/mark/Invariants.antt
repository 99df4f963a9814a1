use Rattle.std.proofs.Common.{◌≡◌}
use Rattle.world_keeper.specs.KeptWorlds.{with_mark}
use Rattle.world_keeper.proofs.Mapped.{mapped}
use Rattle.world_keeper.proofs.bundles.mark.Given as goal

abbrev pub invariant-loop-bundle : goal.invariant-loop-bundle
invariant-loop-bundle l = l.bundles ≡ mapped (with_mark l.location l.yes) l.bundle-index l.initial.bundles
