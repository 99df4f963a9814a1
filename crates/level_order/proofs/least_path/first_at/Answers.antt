use Rattle.level_order.proofs.LowestLemmas.{first_is}
use Rattle.level_order.proofs.least_path.first_at.Goals as goal

pub returns-then-at-descriptions : goal.returns-then-at-descriptions
returns-then-at-descriptions c =
    first_is c.args.descriptions.now c.args.links.now.onward.items c.args.links.now.back.items c.args.steps.now c.args.left c.args.at c.lowest_over.result c.deref.result.now c.deref-then-at-descriptions.result.now c.places_at.result.now
    c.requires c.if-at-descriptions.true c.lowest_over.ensures c.places_at.ensures c.deref.ensures.value c.deref-then-at-descriptions.ensures.value
