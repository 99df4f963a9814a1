use Rattle.level_order.specs.Uses.{all_uses}
use Rattle.level_order.proofs.CycleLemmas.{one_more, rising_on_none}
use Rattle.level_order.proofs.told_cycle.found_cycle.Goals as goal

pub loop-place-preserved-then-rise_at : goal.loop-place-preserved-then-rise_at
loop-place-preserved-then-rise_at c =
    let never = rw (c.deref-3.ensures.value, c.deref-4.ensures.value) at (rw c.if-are_good.true at c.never_fall-are_good.ensures) in
    let rises = rw (c.deref-then-are_good.ensures.value, c.deref-then-are_good-2.ensures.value) at (rw c.if-rise_at.true at c.rise_at.ensures) in
    one_more (all_uses c.args.descriptions.now) c.loop-place.place c.loop-place.invariant
    (rising_on_none c.args.descriptions.now c.args.links.now.onward.items c.args.links.now.back.items c.in_ok-ranks.ranks.items c.requires never c.loop-place.place rises)
