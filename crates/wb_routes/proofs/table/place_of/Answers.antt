use Rattle.std.proofs.Common.{◌++◌, rules, tests}
use Rattle.std.proofs.lemmas.List.Sorted.{IsPartitionPoint-from_clause}
use Rattle.wb_routes.proofs.TableLemmas.{goes_before, place_from_point, rows_parted}
use Rattle.wb_routes.proofs.table.place_of.Goals as goal

pub returns : goal.returns
returns c =
    let text = c.args.front.now ++ c.args.end.now in
    let point = IsPartitionPoint-from_clause (goes_before text) _ _ c.partition_point.ensures.partitioned (rows_parted text c.args.rows.now c.requires) (λ a r q k. search (rules, tests)) in
    place_from_point text c.args.rows.now c.partition_point.result c.partition_point.ensures.bound point.0 point.1
