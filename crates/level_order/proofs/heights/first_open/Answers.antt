use Rattle.level_order.proofs.HeightLemmas.{is_open, not_open_known, not_open_over, open_before, over_is}
use Rattle.level_order.proofs.heights.first_open.Goals as goal
use Rattle.level_order.proofs.heights.first_open.Goals.{else-is_none-via-then-is_none+in_ok-height_over+else-is_some, else-is_none-via-else-is_none}

pub returns-then-is_some : goal.returns-then-is_some
returns-then-is_some c =
    let over = over_is c.args.first c.loop-place.place c.args.links.now c.args.heights.now c.rise_at.result c.as_slice.result.now c.index-links-place.result c.in_ok-height_over.field-0 c.loop-place-test.true c.in_ok-height_over.ensures c.rise_at.ensures c.as_slice.ensures c.index-links-place.is in
    (c.loop-place-test.true, is_open c.args.first c.args.links.now c.args.heights.now c.loop-place.place c.height_at.result c.in_ok-height_over.field-0 c.is_none.result c.is_some.result c.height_at.ensures c.is_none.ensures c.if-is_none.true over c.is_some.ensures c.if-is_some.true)

pub loop-place-preserved : goal.loop-place-preserved
loop-place-preserved c = open_before c.args.first c.args.links.now c.args.heights.now c.loop-place.place c.loop-place.invariant (elim c.else-is_none.branch [
  | else-is_none-via-then-is_none+in_ok-height_over+else-is_some w ↦ (
      let over = over_is c.args.first c.loop-place.place c.args.links.now c.args.heights.now w.rise_at.result w.as_slice.result.now c.index-links-place.result w.in_ok-height_over.field-0 c.loop-place-test.true w.in_ok-height_over.ensures w.rise_at.ensures w.as_slice.ensures c.index-links-place.is in
      not_open_over c.args.first c.args.links.now c.args.heights.now c.loop-place.place w.in_ok-height_over.field-0 w.is_some.result over w.is_some.ensures w.if-is_some.false)
  | else-is_none-via-else-is_none w ↦ not_open_known c.args.first c.args.links.now c.args.heights.now c.loop-place.place c.height_at.result c.is_none.result c.height_at.ensures c.is_none.ensures w.if-is_none.false
])
