-- A row renamed at the place of a number is the map that renames it there.
use Rattle.std.proofs.Common.{arith, ap, refl}
use Rattle.row_places.proofs.RowPlaceLaws.{only_within}
use Rattle.bundle_life.specs.declared.bundle.BundleState.TheVariants.{Installed}
use Rattle.bundle_life.specs.Numbers.{has_number}
use Rattle.bundle_life.proofs.RowLaws.{count_leaves, name_set, name_unset}
use Rattle.bundle_life.proofs.rows.BundleRows.rename.Goals as goal

pub index_mut-row-requires : goal.index_mut-row-requires
index_mut-row-requires c = let within = only_within (has_number c.args.number) c.in-Some.place c.as_slice.result.now c.in-Some.ensures in omega (arith, within, c.as_slice.ensures.len)

pub returns-in-Some-clause-rows : goal.returns-in-Some-clause-rows
returns-in-Some-clause-rows c = let only = rw c.as_slice.ensures.value at c.in-Some.ensures in
    rw (← c.self.view_is) (ap (λ rows. record { rows = rows; numbered = c.self.inside.numbered })
    (name_set c.args.number c.in-Some.place c.args.name c.args.version c.self.inside.list.items c.index_mut-row.result.now only c.index_mut-row.ensures.value))

pub returns-in-Some-clause-leaves : goal.returns-in-Some-clause-leaves
returns-in-Some-clause-leaves c = let only = rw c.as_slice.ensures.value at c.in-Some.ensures in
    rw (← c.self.view_is) (λ before. count_leaves c.args.number c.in-Some.place c.self.inside.list.items
    (record c.index_mut-row.result.now { name = c.args.name; version = c.args.version; state = Installed }) c.index_mut-row.result.now only before refl)

pub returns-in_default-clause-rows : goal.returns-in_default-clause-rows
returns-in_default-clause-rows c = let none = rw c.as_slice.ensures.value at c.in_default.ensures in
    rw (← c.self.view_is) (ap (λ rows. record { rows = rows; numbered = c.self.inside.numbered }) (name_unset c.args.number c.args.name c.args.version c.self.inside.list.items none))
