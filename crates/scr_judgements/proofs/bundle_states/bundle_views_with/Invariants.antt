use Rattle.std.proofs.Common.{◌≡◌, take}
use Rattle.std.specs.Prelude.{map}
use Rattle.bundle_life.specs.Lives.{in_state}
use Rattle.scr_world.specs.Tables.{bundle_rows}
use Rattle.scr_judgements.proofs.bundle_states.bundle_views_with.Given as goal

abbrev pub invariant-loop-contents : goal.invariant-loop-contents
invariant-loop-contents l = l.views.items ≡ bundle_rows (map (in_state l.bundle l.state) l.bundles.rows) (take l.contents-index l.documents)
