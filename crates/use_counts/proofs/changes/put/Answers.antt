-- A row in its place, or in the gap.
use Rattle.std.proofs.Common.{subst, sym, ◌∙◌, Err}
use Rattle.row_places.specs.RowPlaces.{IsPlaceOrGap, OnlyAt}
use Rattle.use_counts.specs.declared.uses.UseRow.{UseRow}
use Rattle.use_counts.specs.Refusals.{AreUses}
use Rattle.use_counts.specs.Uses.{is_use, no_use, use_cmp}
use Rattle.use_counts.proofs.Undone.{row_new, row_there, uses_with_row}
use Rattle.use_counts.proofs.changes.put.Goals as goal

pub returns-in-Ok-clause-now : goal.returns-in-Ok-clause-now
returns-in-Ok-clause-now c =
    let only : OnlyAt (is_use c.args.row.bundle c.args.row.service) c.in-Ok.place c.args.rows.now.items =
    rw c.as_slice.ensures.value at c.in-Ok.ensures.place in
    row_there c.args.row c.in-Ok.place c.args.rows.now.items c.requires.uses.0 only

pub returns-in-Ok-clause-uses : goal.returns-in-Ok-clause-uses
returns-in-Ok-clause-uses c =
    subst AreUses (sym (returns-in-Ok-clause-now c)) (uses_with_row c.args.row c.args.rows.now.items c.requires.counted c.requires.uses)

pub returns-in-Err-clause-now : goal.returns-in-Err-clause-now
returns-in-Err-clause-now c =
    let place : IsPlaceOrGap (λ (u : UseRow). use_cmp u (no_use c.args.row.bundle c.args.row.service)) (Err c.in-Err.gap) c.args.rows.now.items =
    rw c.as_slice.ensures.value at c.in-Err.ensures.place in
    c.insert.ensures.now ∙ row_new c.args.row c.in-Err.gap c.args.rows.now.items place

pub returns-in-Err-clause-uses : goal.returns-in-Err-clause-uses
returns-in-Err-clause-uses c =
    subst AreUses (sym (returns-in-Err-clause-now c)) (uses_with_row c.args.row c.args.rows.now.items c.requires.counted c.requires.uses)
