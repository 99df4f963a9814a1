-- In rows by service the search finds the one of a service, or the gap where it would stand.
use Rattle.std.proofs.Common.{rules}
use Rattle.std.proofs.lemmas.Fn.{always_returns_same}
use Rattle.std.specs.Ordering.{nat_cmp}
use Rattle.row_places.proofs.NumberLaws.{placed_by}
use Rattle.told_revisions.specs.declared.services.ServiceRevision.{ServiceRevision}
use Rattle.told_revisions.proofs.services.place_of.Goals as goal

pub returns-clause-place : goal.returns-clause-place
returns-clause-place c =
    placed_by (λ (r : ServiceRevision). r.service) c.args.service c.args.rows.now c.binary_search_by.result c.requires
    (c.binary_search_by.ensures.position (λ (r : ServiceRevision). nat_cmp r.service c.args.service) (always_returns_same _ _ _ (λ a r q k. search rules)))
    c.binary_search_by.ensures.bound
