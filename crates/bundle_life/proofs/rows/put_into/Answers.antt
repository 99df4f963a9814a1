-- A row in the place of the one of its number, or in the gap.
use Rattle.std.proofs.Common.{◌≡◌, ap, arith, length, subst, sym, ◌∙◌, Ok, Err}
use Rattle.std.specs.Ordering.{nat_cmp}
use Rattle.std.specs.List.{count_by}
use Rattle.std.specs.Prelude.{insert}
use Rattle.row_places.specs.RowPlaces.{IsPlaceOrGap}
use Rattle.row_places.proofs.RowPlaceLaws.{filter_none}
use Rattle.bundle_life.specs.declared.bundle.BundleLife.{BundleLife}
use Rattle.bundle_life.specs.Numbers.{AreNumbered, IsGiven, has_number, stops, without_number}
use Rattle.row_places.proofs.NumberLaws.{all_with, none_has, only_has, put_new, put_there, rising_with}
use Rattle.bundle_life.proofs.RowLaws.{count_exchanged, count_inserted}
use Rattle.bundle_life.proofs.rows.put_into.Goals as goal

pub returns-in-Ok-clause-now : goal.returns-in-Ok-clause-now
returns-in-Ok-clause-now c =
    let place : IsPlaceOrGap (λ (b : BundleLife). nat_cmp b.number c.args.row.number) (Ok c.in-Ok.place) c.args.rows.now.items =
    rw c.as_slice.ensures.value at c.in-Ok.ensures.place in
    put_there (λ (b : BundleLife). b.number) c.args.row c.in-Ok.place c.args.rows.now.items c.requires.order place

pub returns-in-Ok-clause-numbered : goal.returns-in-Ok-clause-numbered
returns-in-Ok-clause-numbered c numbered given rows = subst (AreNumbered numbered) (sym (returns-in-Ok-clause-now c)) (
  rising_with (λ (b : BundleLife). b.number) c.args.row c.args.rows.now.items rows.0,
  all_with (λ (b : BundleLife). b.number) c.args.row (IsGiven numbered) c.args.rows.now.items given rows.1,
)

pub returns-in-Ok-clause-stopping : goal.returns-in-Ok-clause-stopping
returns-in-Ok-clause-stopping c =
    let place : IsPlaceOrGap (λ (b : BundleLife). nat_cmp b.number c.args.row.number) (Ok c.in-Ok.place) c.args.rows.now.items =
    rw c.as_slice.ensures.value at c.in-Ok.ensures.place in
    count_exchanged c.args.row.number c.in-Ok.place c.args.rows.now.items c.args.row c.args.row (only_has (λ (b : BundleLife). b.number) c.args.row.number c.in-Ok.place c.args.rows.now.items place)

pub insert-requires-clause-room : goal.insert-requires-clause-room
insert-requires-clause-room c =
    let place : IsPlaceOrGap (λ (b : BundleLife). nat_cmp b.number c.args.row.number) (Err c.in-Err.gap) c.args.rows.now.items =
    rw c.as_slice.ensures.value at c.in-Err.ensures.place in
    let none = none_has (λ (b : BundleLife). b.number) c.args.row.number c.in-Err.gap c.args.rows.now.items place in
    let others : length (without_number c.args.row.number c.args.rows.now.items) ≡ length c.args.rows.now.items = ap length (filter_none (has_number c.args.row.number) c.args.rows.now.items none) in
    omega (arith, others, c.requires.room)

pub returns-in-Err-clause-now : goal.returns-in-Err-clause-now
returns-in-Err-clause-now c =
    let place : IsPlaceOrGap (λ (b : BundleLife). nat_cmp b.number c.args.row.number) (Err c.in-Err.gap) c.args.rows.now.items =
    rw c.as_slice.ensures.value at c.in-Err.ensures.place in
    c.insert.ensures ∙ put_new (λ (b : BundleLife). b.number) c.args.row c.in-Err.gap c.args.rows.now.items place

pub returns-in-Err-clause-numbered : goal.returns-in-Err-clause-numbered
returns-in-Err-clause-numbered c numbered given rows = subst (AreNumbered numbered) (sym (returns-in-Err-clause-now c)) (
  rising_with (λ (b : BundleLife). b.number) c.args.row c.args.rows.now.items rows.0,
  all_with (λ (b : BundleLife). b.number) c.args.row (IsGiven numbered) c.args.rows.now.items given rows.1,
)

pub returns-in-Err-clause-stopping : goal.returns-in-Err-clause-stopping
returns-in-Err-clause-stopping c =
    let place : IsPlaceOrGap (λ (b : BundleLife). nat_cmp b.number c.args.row.number) (Err c.in-Err.gap) c.args.rows.now.items =
    rw c.as_slice.ensures.value at c.in-Err.ensures.place in
    let none = none_has (λ (b : BundleLife). b.number) c.args.row.number c.in-Err.gap c.args.rows.now.items place in
    let counted : count_by stops c.insert.new.rows.items ≡ count_by stops (insert c.args.rows.now.items c.in-Err.gap c.args.row) = ap (count_by stops) c.insert.ensures in
    omega (arith, counted, count_inserted c.args.row.number c.in-Err.gap c.args.rows.now.items c.args.row none)
