use Rattle.std.proofs.Common.{◌≡◌, map, take}
use Rattle.use_counts.specs.Uses.{use_count}
use Rattle.scr_readers.proofs.service_views.uses_by.Given as goal

abbrev pub invariant-loop-bundle : goal.invariant-loop-bundle
invariant-loop-bundle l = l.uses.items ≡ map (λ b. record { bundle = b; count = use_count b l.service l.world.uses }) (take l.bundle-index l.bundles)
