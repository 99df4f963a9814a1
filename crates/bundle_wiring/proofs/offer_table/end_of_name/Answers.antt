use Rattle.std.proofs.Common.{rules}
use Rattle.std.specs.Ordering.{is_le}
use Rattle.std.proofs.lemmas.List.Sorted.{IsPartitionPoint-from_clause}
use Rattle.bundle_wiring.specs.Placing.{cmp_to}
use Rattle.bundle_wiring.proofs.OfferTables.{parted_up_to}
use Rattle.bundle_wiring.proofs.offer_table.end_of_name.Goals as goal

pub returns-clause-later : goal.returns-clause-later
returns-clause-later c =
    let name = c.args.name.now in
    let table = c.args.table.now in
    (IsPartitionPoint-from_clause (λ o. is_le (cmp_to name o)) _ _ c.partition_point.ensures.partitioned (parted_up_to table name c.requires) (λ a r q k. search rules)).1
