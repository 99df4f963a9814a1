use Rattle.std.proofs.Common.{◌≡◌, take}
use Rattle.std.specs.Prelude.{flat_map}
use Rattle.scr_dues.specs.Desires.{are_desiring}
use Rattle.scr_dues.specs.Wanting.{missing_for_where}
use Rattle.scr_dues.proofs.wanted.keys_for_all.Given as goal

abbrev pub invariant-loop-component : goal.invariant-loop-component
invariant-loop-component l = l.found.items ≡ flat_map (missing_for_where l.world (are_desiring l.desiring)) (take l.component-index l.components)
