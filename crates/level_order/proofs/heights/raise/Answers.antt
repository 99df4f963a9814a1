use Rattle.level_order.proofs.HeightLemmas.{over_is, raised_at, raised_grows}
use Rattle.level_order.proofs.heights.raise.Goals as goal

pub returns-in_ok-height-clause-raised : goal.returns-in_ok-height-clause-raised
returns-in_ok-height-clause-raised c =
    let over = over_is c.args.first c.args.place c.args.links.now c.args.heights.now.items c.rise_at.result c.as_slice.result.now c.index-links-place.result c.in_ok-height.height c.if-place-links.true (rw c.deref-then-is_none.ensures.value at c.in_ok-height.ensures) c.rise_at.ensures c.as_slice.ensures c.index-links-place.is in
    raised_at c.args.first c.args.links.now c.args.heights.now.items c.args.place c.in_ok-height.height c.height_at.result c.is_none.result c.requires c.if-place-links.true over (rw c.deref.ensures.value at c.height_at.ensures) c.is_none.ensures c.if-is_none.true

pub returns-in_ok-height-clause-more : goal.returns-in_ok-height-clause-more
returns-in_ok-height-clause-more c =
    let over = over_is c.args.first c.args.place c.args.links.now c.args.heights.now.items c.rise_at.result c.as_slice.result.now c.index-links-place.result c.in_ok-height.height c.if-place-links.true (rw c.deref-then-is_none.ensures.value at c.in_ok-height.ensures) c.rise_at.ensures c.as_slice.ensures c.index-links-place.is in
    λ within. raised_grows c.args.first c.args.links.now c.args.heights.now.items c.args.place c.in_ok-height.height c.requires c.if-place-links.true over (raised_at c.args.first c.args.links.now c.args.heights.now.items c.args.place c.in_ok-height.height c.height_at.result c.is_none.result c.requires c.if-place-links.true over (rw c.deref.ensures.value at c.height_at.ensures) c.is_none.ensures c.if-is_none.true)
