use Rattle.std.proofs.Common.{◌≡◌, take}
use Rattle.scr_world.specs.Tables.{bundle_rows}
use Rattle.scr_judgements.proofs.bundle_states.bundle_views.Given as goal

abbrev pub invariant-loop-contents : goal.invariant-loop-contents
invariant-loop-contents l = l.views.items ≡ bundle_rows l.bundles.rows (take l.contents-index l.documents)
