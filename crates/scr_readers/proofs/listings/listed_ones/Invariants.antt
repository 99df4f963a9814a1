use Rattle.std.proofs.Common.{◌≡◌, map, take}
use Rattle.component_state.specs.Components.{existing}
use Rattle.scr_readers.specs.ListedComponents.{listed_by}
use Rattle.scr_readers.proofs.listings.listed_ones.Given as goal

abbrev pub invariant-loop-component : goal.invariant-loop-component
invariant-loop-component l = l.lines.items ≡ map (listed_by l.world l.satisfied) (existing (take l.component-index l.world.components))
