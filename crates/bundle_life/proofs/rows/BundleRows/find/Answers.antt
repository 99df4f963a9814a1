-- The bundle at the one place of a number is the bundle of that number.
use Rattle.std.proofs.Common.{sym, arith, refl, length}
use Rattle.std.proofs.lemmas.Option.{slice_get_read}
use Rattle.row_places.proofs.RowPlaceLaws.{find_only, find_none, only_within}
use Rattle.bundle_life.specs.Numbers.{has_number}
use Rattle.bundle_life.proofs.rows.BundleRows.find.Goals as goal

pub index-requires : goal.index-requires
index-requires c = let within = only_within (has_number c.args.number) c.in-Some.place c.as_slice.result.now c.in-Some.ensures in omega (arith, within, c.as_slice.ensures.len)

pub returns-in-Some : goal.returns-in-Some
returns-in-Some c = let only = rw c.as_slice.ensures.value at c.in-Some.ensures in
    let found = find_only (has_number c.args.number) c.in-Some.place c.self.inside.list.items only in
    let within = only_within (has_number c.args.number) c.in-Some.place c.self.inside.list.items only in
    rw (← c.self.view_is) (rw found (sym (slice_get_read c.self.inside.list.items (length c.self.inside.list.items) c.in-Some.place c.index.result.now refl within c.index.ensures)))

pub returns-in-None : goal.returns-in-None
returns-in-None c = let none = rw c.as_slice.ensures.value at c.in-None.ensures in rw (← c.self.view_is) (sym (find_none (has_number c.args.number) c.self.inside.list.items none))
