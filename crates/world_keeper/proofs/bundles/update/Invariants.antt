use Rattle.std.proofs.Common.{◌≡◌}
use Rattle.world_keeper.specs.KeptWorlds.{with_document}
use Rattle.world_keeper.proofs.Mapped.{mapped}
use Rattle.world_keeper.proofs.bundles.update.Given as goal

abbrev pub invariant-loop-bundle : goal.invariant-loop-bundle
invariant-loop-bundle l = l.bundles ≡ mapped (with_document l.location l.document) l.bundle-index l.initial.bundles
