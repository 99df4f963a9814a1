-- A get more in the place of its row, or with a new row in the gap.
use Rattle.std.proofs.Common.{◌<◌, ◌+◌, ◌^◌, ap, subst, sym, ◌∙◌}
use Rattle.row_places.specs.RowPlaces.{IsPlaceOrGap, OnlyAt}
use Rattle.std.specs.Prelude.{Err}
use Rattle.use_counts.specs.declared.uses.UseRow.{UseRow}
use Rattle.use_counts.specs.Refusals.{AreUses}
use Rattle.use_counts.specs.Uses.{is_use, no_use, one_more, total, use_cmp}
use Rattle.use_counts.proofs.UseRows.{got_first, got_there, total_more, use_nowhere, use_there, uses_after_get}
use Rattle.use_counts.proofs.changes.add_get.Goals as goal

pub one_more-row-requires : goal.one_more-row-requires
one_more-row-requires c =
    let only : OnlyAt (is_use c.args.bundle c.args.service) c.in-Ok.place c.args.rows.now.items = rw c.as_slice.ensures.value at c.in-Ok.ensures.place in
    let there = use_there c.args.bundle c.args.service c.in-Ok.place c.args.rows.now.items c.index.result.now only ∙ sym c.index.ensures in
    subst (λ (u : UseRow). total u + 1 < 2 ^ 32) there c.requires.small

pub total-requires : goal.total-requires
total-requires c =
    let only : OnlyAt (is_use c.args.bundle c.args.service) c.in-Ok.place c.args.rows.now.items = rw c.as_slice.ensures.value at c.in-Ok.ensures.place in
    let there = use_there c.args.bundle c.args.service c.in-Ok.place c.args.rows.now.items c.index.result.now only ∙ sym c.index.ensures in
    let small : total c.index.result.now + 1 < 2 ^ 32 = subst (λ (u : UseRow). total u + 1 < 2 ^ 32) there c.requires.small in
    subst (λ n. n < 2 ^ 32) (sym (ap total c.one_more-row.ensures ∙ total_more c.args.holder c.index.result.now)) small

pub returns-in-Ok-clause-count : goal.returns-in-Ok-clause-count
returns-in-Ok-clause-count c =
    let only : OnlyAt (is_use c.args.bundle c.args.service) c.in-Ok.place c.args.rows.now.items = rw c.as_slice.ensures.value at c.in-Ok.ensures.place in
    let there = use_there c.args.bundle c.args.service c.in-Ok.place c.args.rows.now.items c.index.result.now only ∙ sym c.index.ensures in
    c.total.ensures ∙ ap total c.one_more-row.ensures ∙ total_more c.args.holder c.index.result.now ∙ ap (λ (u : UseRow). total u + 1) (sym there)

pub returns-in-Ok-clause-ok : goal.returns-in-Ok-clause-ok
returns-in-Ok-clause-ok c =
    let only : OnlyAt (is_use c.args.bundle c.args.service) c.in-Ok.place c.args.rows.now.items = rw c.as_slice.ensures.value at c.in-Ok.ensures.place in
    got_there c.args.bundle c.args.service c.args.holder c.in-Ok.place c.args.rows.now.items c.one_more-row.result c.index.result.now c.requires.uses.0 only
    (c.one_more-row.ensures ∙ ap (one_more c.args.holder) c.index.ensures)

pub returns-in-Ok-clause-uses : goal.returns-in-Ok-clause-uses
returns-in-Ok-clause-uses c =
    let only : OnlyAt (is_use c.args.bundle c.args.service) c.in-Ok.place c.args.rows.now.items = rw c.as_slice.ensures.value at c.in-Ok.ensures.place in
    let is = got_there c.args.bundle c.args.service c.args.holder c.in-Ok.place c.args.rows.now.items c.one_more-row.result c.index.result.now c.requires.uses.0 only
    (c.one_more-row.ensures ∙ ap (one_more c.args.holder) c.index.ensures) in
    subst AreUses (sym is) (uses_after_get c.args.bundle c.args.service c.args.holder c.args.rows.now.items c.requires.small c.requires.uses)

pub returns-in_ok-insert-in-Err-clause-count : goal.returns-in_ok-insert-in-Err-clause-count
returns-in_ok-insert-in-Err-clause-count c =
    let place : IsPlaceOrGap (λ (u : UseRow). use_cmp u (no_use c.args.bundle c.args.service)) (Err c.in-Err.gap) c.args.rows.now.items = rw c.as_slice.ensures.value at c.in-Err.ensures.place in
    ap (λ (u : UseRow). total u + 1) (sym (use_nowhere c.args.bundle c.args.service c.in-Err.gap c.args.rows.now.items c.requires.uses.0 place))

pub returns-in_ok-insert-in-Err-clause-ok : goal.returns-in_ok-insert-in-Err-clause-ok
returns-in_ok-insert-in-Err-clause-ok c =
    let place : IsPlaceOrGap (λ (u : UseRow). use_cmp u (no_use c.args.bundle c.args.service)) (Err c.in-Err.gap) c.args.rows.now.items = rw c.as_slice.ensures.value at c.in-Err.ensures.place in
    c.in_ok-insert-in-Err.ensures.items
    ∙ got_first c.args.bundle c.args.service c.args.holder c.in-Err.gap c.args.rows.now.items c.one_more-row-in-Err.result c.requires.uses.0 place (c.one_more-row-in-Err.ensures ∙ ap (one_more c.args.holder) c.no_use.ensures)

pub returns-in_ok-insert-in-Err-clause-uses : goal.returns-in_ok-insert-in-Err-clause-uses
returns-in_ok-insert-in-Err-clause-uses c =
    let place : IsPlaceOrGap (λ (u : UseRow). use_cmp u (no_use c.args.bundle c.args.service)) (Err c.in-Err.gap) c.args.rows.now.items = rw c.as_slice.ensures.value at c.in-Err.ensures.place in
    let is = c.in_ok-insert-in-Err.ensures.items
    ∙ got_first c.args.bundle c.args.service c.args.holder c.in-Err.gap c.args.rows.now.items c.one_more-row-in-Err.result c.requires.uses.0 place (c.one_more-row-in-Err.ensures ∙ ap (one_more c.args.holder) c.no_use.ensures) in
    subst AreUses (sym is) (uses_after_get c.args.bundle c.args.service c.args.holder c.args.rows.now.items c.requires.small c.requires.uses)
