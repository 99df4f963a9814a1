-- In services by ascending number the search tells whether one of them has a number.
use Rattle.std.proofs.Common.{◌∙◌, rules}
use Rattle.std.proofs.lemmas.Fn.{always_returns_same}
use Rattle.std.specs.Ordering.{nat_cmp}
use Rattle.row_places.proofs.RowPlaceLaws.{searched_number}
use Rattle.scr_consequences.proofs.DirectLemmas.{place_has}
use Rattle.service_registry.specs.declared.row.ServiceRow.{ServiceRow}
use Rattle.scr_consequences.proofs.direct_changes.stands_among.Goals as goal

pub returns : goal.returns
returns c =
    c.is_ok.ensures.value
    ∙ place_has c.args.service c.binary_search_by.result c.args.rows.now
    (searched_number (λ (r : ServiceRow). r.id) c.args.service c.args.rows.now c.binary_search_by.result c.requires
    (c.binary_search_by.ensures.position (λ (r : ServiceRow). nat_cmp r.id c.args.service) (always_returns_same _ _ _ (λ a r q k. search rules))) c.binary_search_by.ensures.bound)
