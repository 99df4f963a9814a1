use Rattle.std.proofs.Common.{◌≡◌, take}
use Rattle.component_state.proofs.component_configurations.property_draft.in_order.Given as goal

abbrev pub invariant-loop-property : goal.invariant-loop-property
invariant-loop-property l = l.properties ≡ take l.property-index l.list
