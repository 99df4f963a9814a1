use Rattle.std.proofs.Common.{sym, subst, rules}
use Rattle.std.specs.Cmp.Lexicographic.{slice_cmp}
use Rattle.std.specs.Ordering.{nat_cmp}
use Rattle.std.proofs.lemmas.Fn.{always_returns_same}
use Rattle.row_places.specs.RowPlaces.{IsOnlyPlace}
use Rattle.shared_map.specs.declared.rows.Row.{Row}
use Rattle.shared_map.specs.Rows.{is_of}
use Rattle.shared_map.proofs.RowLemmas.{placed}
use Rattle.shared_map.proofs.rows.place_of.Goals as goal

pub returns-clause-place : goal.returns-clause-place
returns-clause-place g c =
    subst (λ o. IsOnlyPlace (is_of c.args.key.now) o c.args.rows.now) (sym c.ok.ensures.value)
    (placed c.args.key.now c.args.rows.now c.binary_search_by.result c.requires
    (c.binary_search_by.ensures.position (λ (r : Row g.row.V.Denot). slice_cmp nat_cmp r.key c.args.key.now) (always_returns_same _ _ _ (λ a r q k. search rules)))
    c.binary_search_by.ensures.bound)
