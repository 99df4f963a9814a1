use Rattle.component_state.proofs.PropertyOrder.{next_in_order}
use Rattle.component_state.proofs.component_configurations.property_draft.in_order.Goals as goal

pub loop-property-preserved : goal.loop-property-preserved
loop-property-preserved c = next_in_order c.args.list.now c.loop-property.property-index c.property-item.result c.loop-property.properties _ _ _
    c.requires c.loop-property-test.true c.property-item.is c.as_str.ensures c.in_ok-copy.ensures c.loop-property.invariant c.in_ok-set.ensures.ok
