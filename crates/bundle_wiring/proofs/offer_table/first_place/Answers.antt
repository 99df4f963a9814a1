use Rattle.std.proofs.Common.{◌≡◌, true, subst}
use Rattle.std.specs.List.{AllWithin}
use Rattle.std.specs.Ordering.{is_lt}
use Rattle.bundle_wiring.specs.Placing.{cmp_to}
use Rattle.bundle_wiring.proofs.OfferTables.{passed_to_name}
use Rattle.bundle_wiring.proofs.offer_table.first_place.Goals as goal

pub first_from-requires-clause-passed : goal.first_from-requires-clause-passed
first_from-requires-clause-passed c =
    let table = c.args.table.now in
    let start = c.start_of_name-start.result in
    passed_to_name c.args.left.now c.args.need.now table start
    (subst (λ name. AllWithin (λ o. is_lt (cmp_to name o) ≡ true) table 0 start) c.as_str.ensures c.start_of_name-start.ensures)
