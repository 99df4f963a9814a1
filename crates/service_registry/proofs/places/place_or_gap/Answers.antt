-- In rows by ascending number the search finds the one of a number, or the gap where it would stand.
use Rattle.std.proofs.Common.{rules}
use Rattle.std.proofs.lemmas.Fn.{always_returns_same}
use Rattle.std.specs.Ordering.{nat_cmp}
use Rattle.service_registry.specs.declared.row.ServiceRow.{ServiceRow}
use Rattle.service_registry.proofs.Undone.{place_or_gap_is}
use Rattle.service_registry.proofs.places.place_or_gap.Goals as goal

pub returns-clause-place : goal.returns-clause-place
returns-clause-place c = place_or_gap_is c.args.service c.args.rows.now c.binary_search_by.result c.requires
    (c.binary_search_by.ensures.position (λ (r : ServiceRow). nat_cmp r.id c.args.service) (always_returns_same _ _ _ (λ a r q k. search rules))) c.binary_search_by.ensures.bound
