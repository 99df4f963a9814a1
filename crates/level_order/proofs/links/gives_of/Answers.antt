use Rattle.std.proofs.Common.{◌∙◌}
use Rattle.std.specs.Prelude.{map}
use Rattle.level_order.proofs.LinkLemmas.{placed_more}
use Rattle.level_order.proofs.links.gives_of.Goals as goal

pub loop-interface-preserved : goal.loop-interface-preserved
loop-interface-preserved c =
    c.in_ok-push.ensures.items ∙ placed_more (λ i. i) (map (λ t. t.now) c.args.names.now) c.args.first c.as_slice-interface-items.result.now c.args.description.now.service_interfaces c.loop-interface.interface-index c.loop-interface.numbers.items c.interface-item.result
    c.as_str.result.now c.number_of.result c.as_slice-interface-items.ensures c.loop-interface-test.true c.interface-item.is c.as_str.ensures c.number_of.ensures.number c.loop-interface.invariant
