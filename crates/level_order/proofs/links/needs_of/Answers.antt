use Rattle.std.proofs.Common.{◌∙◌}
use Rattle.std.specs.Prelude.{map}
use Rattle.component_dto.specs.declared.description.Reference.{Reference}
use Rattle.level_order.proofs.LinkLemmas.{placed_more}
use Rattle.level_order.proofs.links.needs_of.Goals as goal

pub loop-reference-preserved : goal.loop-reference-preserved
loop-reference-preserved c =
    c.in_ok-push.ensures.items ∙ placed_more (λ (r : Reference). r.interface_name) (map (λ t. t.now) c.args.names.now) c.args.first c.as_slice-reference-items.result.now c.args.description.now.references c.loop-reference.reference-index c.loop-reference.numbers.items c.reference-item.result
    c.as_str.result.now c.number_of.result c.as_slice-reference-items.ensures c.loop-reference-test.true c.reference-item.is c.as_str.ensures c.number_of.ensures.number c.loop-reference.invariant
