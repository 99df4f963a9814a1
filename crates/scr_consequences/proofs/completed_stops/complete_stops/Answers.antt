use Rattle.std.proofs.Common.{get_or, refl}
use Rattle.scr_consequences.proofs.StopLemmas.{completed_next, completed_none, still_stopping}
use Rattle.scr_consequences.proofs.completed_stops.complete_stops.Goals as goal

pub loop-bundle-init : goal.loop-bundle-init
loop-bundle-init c = completed_none c.args.bundles.now

pub stopped-requires : goal.stopped-requires
stopped-requires c =
    let i = c.loop-bundle.bundle-index in
    still_stopping c.args.stopped.now i (get_or c.args.stopped.now i 0) c.args.bundles.now c.loop-bundle.bundles c.requires.rising c.loop-bundle-test.true refl c.requires.stopping c.loop-bundle.invariant

pub loop-bundle-preserved : goal.loop-bundle-preserved
loop-bundle-preserved c =
    let i = c.loop-bundle.bundle-index in
    completed_next c.args.stopped.now i (get_or c.args.stopped.now i 0) c.args.bundles.now c.loop-bundle.bundles c.stopped.new.self c.loop-bundle-test.true refl c.loop-bundle.invariant c.stopped.ensures
