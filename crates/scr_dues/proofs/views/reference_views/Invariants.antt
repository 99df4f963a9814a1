use Rattle.std.proofs.Common.{◌≡◌, ◌++◌, drop}
use Rattle.std.specs.Prelude.{map}
use Rattle.prop_map.specs.Words.{with_places}
use Rattle.scr_world.specs.Views.{reference_view}
use Rattle.scr_dues.proofs.views.reference_views.Given as goal

abbrev pub invariant-loop-at : goal.invariant-loop-at
invariant-loop-at l = l.found.items ++ map (reference_view l.ending l.world l.instance) (with_places l.at (drop l.at l.references)) ≡ map (reference_view l.ending l.world l.instance) (with_places 0 l.references)
