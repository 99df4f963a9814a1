use Rattle.std.proofs.Common.{rules, tests}
use Rattle.std.proofs.lemmas.List.Sorted.{IsPartitionPoint-from_clause}
use Rattle.prop_map.specs.Places.{goes_after}
use Rattle.prop_map.proofs.PlaceLemmas.{order_parts, place_from_point}
use Rattle.prop_map.proofs.properties.place.Goals as goal

pub returns-clause-at : goal.returns-clause-at
returns-clause-at c =
    let point = IsPartitionPoint-from_clause (goes_after c.args.key.now) _ _ c.partition_point.ensures.partitioned (order_parts c.args.key.now c.args.list.now c.requires) (λ a r q k. search (rules, tests)) in
    place_from_point c.args.key.now c.args.list.now c.partition_point.result c.partition_point.ensures.bound point.0 point.1
