-- A get less at the place of its row, which goes where it counts none any more.
use Rattle.std.proofs.Common.{◌+◌, ap, subst, sym, ◌∙◌}
use Rattle.row_places.specs.RowPlaces.{IsPlaceOrGap, OnlyAt}
use Rattle.std.specs.Prelude.{Err}
use Rattle.use_counts.specs.declared.uses.UseRow.{UseRow}
use Rattle.use_counts.specs.Refusals.{AreUses}
use Rattle.use_counts.specs.Uses.{held_by, is_use, no_use, one_less, use_cmp}
use Rattle.use_counts.proofs.UseRows.{held_none, held_read, held_some, left_count, small_use, ungot_last, ungot_more, use_nowhere, uses_after_unget}
use Rattle.use_counts.proofs.changes.take_get.Goals as goal

pub returns-then-held_by-eq0-clause-refused : goal.returns-then-held_by-eq0-clause-refused
returns-then-held_by-eq0-clause-refused c =
    let only : OnlyAt (is_use c.args.bundle c.args.service) c.in-Ok.place c.args.rows.now.items = rw c.as_slice.ensures.value at c.in-Ok.ensures.place in
    held_read c.args.bundle c.args.service c.args.holder c.in-Ok.place c.held_by.result c.args.rows.now.items c.index.result.now only c.index.ensures c.held_by.ensures ∙ c.if-held_by-eq0.true

pub returns-then-left-eq0-clause-count : goal.returns-then-left-eq0-clause-count
returns-then-left-eq0-clause-count c =
    let only : OnlyAt (is_use c.args.bundle c.args.service) c.in-Ok.place c.args.rows.now.items = rw c.as_slice.ensures.value at c.in-Ok.ensures.place in
    let held = held_some c.args.bundle c.args.service c.args.holder c.in-Ok.place c.held_by.result c.args.rows.now.items c.index.result.now only c.index.ensures c.held_by.ensures c.if-held_by-eq0.false in
    ap (λ n. n + 1) (sym c.if-left-eq0.true) ∙ left_count c.args.bundle c.args.service c.args.holder c.in-Ok.place c.total-left.result c.args.rows.now.items c.index-in-Ok.result.now c.one_less-row.result only c.index-in-Ok.ensures held c.one_less-row.ensures c.total-left.ensures

pub returns-then-left-eq0-clause-ok : goal.returns-then-left-eq0-clause-ok
returns-then-left-eq0-clause-ok c =
    let only : OnlyAt (is_use c.args.bundle c.args.service) c.in-Ok.place c.args.rows.now.items = rw c.as_slice.ensures.value at c.in-Ok.ensures.place in
    c.remove-row.ensures.items ∙ ungot_last c.args.bundle c.args.service c.args.holder c.in-Ok.place c.args.rows.now.items c.one_less-row.result c.index-in-Ok.result.now only (c.one_less-row.ensures ∙ ap (one_less c.args.holder) c.index-in-Ok.ensures) (sym c.total-left.ensures ∙ c.if-left-eq0.true)

pub returns-then-left-eq0-clause-refused : goal.returns-then-left-eq0-clause-refused
returns-then-left-eq0-clause-refused c =
    let only : OnlyAt (is_use c.args.bundle c.args.service) c.in-Ok.place c.args.rows.now.items = rw c.as_slice.ensures.value at c.in-Ok.ensures.place in
    held_some c.args.bundle c.args.service c.args.holder c.in-Ok.place c.held_by.result c.args.rows.now.items c.index.result.now only c.index.ensures c.held_by.ensures c.if-held_by-eq0.false

pub returns-then-left-eq0-clause-uses : goal.returns-then-left-eq0-clause-uses
returns-then-left-eq0-clause-uses c =
    let only : OnlyAt (is_use c.args.bundle c.args.service) c.in-Ok.place c.args.rows.now.items = rw c.as_slice.ensures.value at c.in-Ok.ensures.place in
    let held = held_some c.args.bundle c.args.service c.args.holder c.in-Ok.place c.held_by.result c.args.rows.now.items c.index.result.now only c.index.ensures c.held_by.ensures c.if-held_by-eq0.false in
    let is = c.remove-row.ensures.items ∙ ungot_last c.args.bundle c.args.service c.args.holder c.in-Ok.place c.args.rows.now.items c.one_less-row.result c.index-in-Ok.result.now only (c.one_less-row.ensures ∙ ap (one_less c.args.holder) c.index-in-Ok.ensures) (sym c.total-left.ensures ∙ c.if-left-eq0.true) in
    subst AreUses (sym is) (uses_after_unget c.args.bundle c.args.service c.args.holder c.args.rows.now.items held (small_use c.args.bundle c.args.service c.args.rows.now.items c.requires) c.requires)

pub returns-else-left-eq0-clause-count : goal.returns-else-left-eq0-clause-count
returns-else-left-eq0-clause-count c =
    let only : OnlyAt (is_use c.args.bundle c.args.service) c.in-Ok.place c.args.rows.now.items = rw c.as_slice.ensures.value at c.in-Ok.ensures.place in
    let held = held_some c.args.bundle c.args.service c.args.holder c.in-Ok.place c.held_by.result c.args.rows.now.items c.index.result.now only c.index.ensures c.held_by.ensures c.if-held_by-eq0.false in
    left_count c.args.bundle c.args.service c.args.holder c.in-Ok.place c.total-left.result c.args.rows.now.items c.index-in-Ok.result.now c.one_less-row.result only c.index-in-Ok.ensures held c.one_less-row.ensures c.total-left.ensures

pub returns-else-left-eq0-clause-ok : goal.returns-else-left-eq0-clause-ok
returns-else-left-eq0-clause-ok c =
    let only : OnlyAt (is_use c.args.bundle c.args.service) c.in-Ok.place c.args.rows.now.items = rw c.as_slice.ensures.value at c.in-Ok.ensures.place in
    ungot_more c.args.bundle c.args.service c.args.holder c.in-Ok.place c.args.rows.now.items c.one_less-row.result c.index-in-Ok.result.now c.requires.0 only (c.one_less-row.ensures ∙ ap (one_less c.args.holder) c.index-in-Ok.ensures) (λ e. c.if-left-eq0.false (c.total-left.ensures ∙ e))

pub returns-else-left-eq0-clause-refused : goal.returns-else-left-eq0-clause-refused
returns-else-left-eq0-clause-refused c =
    let only : OnlyAt (is_use c.args.bundle c.args.service) c.in-Ok.place c.args.rows.now.items = rw c.as_slice.ensures.value at c.in-Ok.ensures.place in
    held_some c.args.bundle c.args.service c.args.holder c.in-Ok.place c.held_by.result c.args.rows.now.items c.index.result.now only c.index.ensures c.held_by.ensures c.if-held_by-eq0.false

pub returns-else-left-eq0-clause-uses : goal.returns-else-left-eq0-clause-uses
returns-else-left-eq0-clause-uses c =
    let only : OnlyAt (is_use c.args.bundle c.args.service) c.in-Ok.place c.args.rows.now.items = rw c.as_slice.ensures.value at c.in-Ok.ensures.place in
    let held = held_some c.args.bundle c.args.service c.args.holder c.in-Ok.place c.held_by.result c.args.rows.now.items c.index.result.now only c.index.ensures c.held_by.ensures c.if-held_by-eq0.false in
    let is = ungot_more c.args.bundle c.args.service c.args.holder c.in-Ok.place c.args.rows.now.items c.one_less-row.result c.index-in-Ok.result.now c.requires.0 only (c.one_less-row.ensures ∙ ap (one_less c.args.holder) c.index-in-Ok.ensures) (λ e. c.if-left-eq0.false (c.total-left.ensures ∙ e)) in
    subst AreUses (sym is) (uses_after_unget c.args.bundle c.args.service c.args.holder c.args.rows.now.items held (small_use c.args.bundle c.args.service c.args.rows.now.items c.requires) c.requires)

pub returns-in-Err-clause-refused : goal.returns-in-Err-clause-refused
returns-in-Err-clause-refused c =
    let place : IsPlaceOrGap (λ (u : UseRow). use_cmp u (no_use c.args.bundle c.args.service)) (Err c.in-Err.field-0) c.args.rows.now.items = rw c.as_slice.ensures.value at c.in-Err.ensures.place in
    ap (held_by c.args.holder) (use_nowhere c.args.bundle c.args.service c.in-Err.field-0 c.args.rows.now.items c.requires.0 place) ∙ held_none c.args.holder c.args.bundle c.args.service
