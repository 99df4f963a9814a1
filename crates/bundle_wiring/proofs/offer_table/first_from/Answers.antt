use Rattle.std.proofs.Common.{◌<◌, ◌≤◌, ◌≡◌, length, arith, false, ◌∙◌, subst, sym}
use Rattle.std.specs.List.{AllWithin}
use Rattle.std.specs.Ordering.{is_le}
use Rattle.bundle_wiring.specs.Placing.{cmp_to}
use Rattle.bundle_wiring.proofs.OfferTables.{first_at, none_first, passed_more}
use Rattle.bundle_wiring.proofs.offer_table.first_from.Goals as goal

pub returns-then-counts : goal.returns-then-counts
returns-then-counts c =
    let low : c.loop-at.at < length c.args.table.now = omega (arith, c.loop-at-test.true, c.end_of_name-end.ensures.within) in
    first_at c.args.left.now c.args.need.now c.args.table.now c.loop-at.at c.index-table-at.result low c.index-table-at.is (sym c.counts.ensures ∙ c.if-counts.true) c.loop-at.invariant

pub loop-at-preserved : goal.loop-at-preserved
loop-at-preserved c =
    let low : c.loop-at.at < length c.args.table.now = omega (arith, c.loop-at-test.true, c.end_of_name-end.ensures.within) in
    passed_more c.args.left.now c.args.need.now c.args.table.now c.loop-at.at c.index-table-at.result low c.index-table-at.is (sym c.counts.ensures ∙ c.if-counts.false) c.loop-at.invariant

pub returns : goal.returns
returns c =
    let table = c.args.table.now in
    let end = c.end_of_name-end.result in
    let over : end ≤ c.loop-at.at = omega (arith, c.loop-at-test.false) in
    none_first c.args.left.now c.args.need.now table c.loop-at.at end over c.loop-at.invariant
    (subst (λ name. AllWithin (λ o. is_le (cmp_to name o) ≡ false) table end (length table)) c.as_str.ensures c.end_of_name-end.ensures.later)
