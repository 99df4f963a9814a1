use Rattle.std.proofs.Common.{◌≡◌, ◌++◌, drop}
use Rattle.std.specs.Prelude.{flat_map}
use Rattle.prop_map.specs.Words.{with_places}
use Rattle.scr_world.specs.Dues.{choice_for}
use Rattle.scr_world.specs.Worlds.{registered_services}
use Rattle.scr_dues.proofs.begins.choices_for.Given as goal

abbrev pub invariant-loop-at : goal.invariant-loop-at
invariant-loop-at l = l.found.items ++ flat_map (choice_for (registered_services l.world) l.properties) (with_places l.at (drop l.at l.references)) ≡ flat_map (choice_for (registered_services l.world) l.properties) (with_places 0 l.references)
