use Rattle.std.proofs.Common.{◌≡◌, take}
use Rattle.bundle_life.specs.Lives.{stop_completed}
use Rattle.scr_consequences.proofs.completed_stops.complete_stops.Given as goal

abbrev pub invariant-loop-bundle : goal.invariant-loop-bundle
invariant-loop-bundle l = l.bundles ≡ stop_completed (take l.bundle-index l.stopped) l.initial.bundles
