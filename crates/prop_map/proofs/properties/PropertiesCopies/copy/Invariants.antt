use Rattle.std.proofs.Common.{◌≡◌, take}
use Rattle.prop_map.proofs.properties.PropertiesCopies.copy.Given as goal

abbrev pub invariant-loop-property : goal.invariant-loop-property
invariant-loop-property l = l.list.items ≡ take l.property-index l.property-items
