-- What is left without the row at the place of a number is the filter that leaves it out.
use Rattle.std.proofs.Common.{arith, ap, sym, ◌∙◌}
use Rattle.row_places.proofs.RowPlaceLaws.{filter_none, filter_only, only_within}
use Rattle.std.specs.List.{count_by}
use Rattle.bundle_life.specs.Numbers.{has_number, stops}
use Rattle.bundle_life.proofs.RowLaws.{count_removed}
use Rattle.bundle_life.proofs.rows.BundleRows.remove.Goals as goal

pub remove-row-requires : goal.remove-row-requires
remove-row-requires c = let within = only_within (has_number c.args.number) c.in-Some.place c.as_slice.result.now c.in-Some.ensures in omega (arith, within, c.as_slice.ensures.len)

pub returns-in-Some-clause-rows : goal.returns-in-Some-clause-rows
returns-in-Some-clause-rows c = let only = rw c.as_slice.ensures.value at c.in-Some.ensures in
    rw (← c.self.view_is) (ap (λ rows. record { rows = rows; numbered = c.self.inside.numbered }) (c.remove-row.ensures.items ∙ sym (filter_only (has_number c.args.number) c.in-Some.place c.self.inside.list.items only)))

pub returns-in-Some-clause-leaves : goal.returns-in-Some-clause-leaves
returns-in-Some-clause-leaves c = let only = rw c.as_slice.ensures.value at c.in-Some.ensures in
    rw (← c.self.view_is) (λ before. ap (count_by stops) c.remove-row.ensures.items ∙ count_removed c.args.number c.in-Some.place c.self.inside.list.items c.remove-row.result only before)

pub returns-in_default-clause-rows : goal.returns-in_default-clause-rows
returns-in_default-clause-rows c = let none = rw c.as_slice.ensures.value at c.in_default.ensures in
    rw (← c.self.view_is) (ap (λ rows. record { rows = rows; numbered = c.self.inside.numbered }) (sym (filter_none (has_number c.args.number) c.self.inside.list.items none)))
