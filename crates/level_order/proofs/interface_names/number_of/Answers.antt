use Rattle.std.proofs.Common.{rules, tests}
use Rattle.std.proofs.lemmas.List.Sorted.{IsPartitionPoint-from_clause}
use Rattle.level_order.specs.InterfaceNames.{is_before}
use Rattle.level_order.proofs.NameLemmas.{point_number, sorted_parts}
use Rattle.level_order.proofs.interface_names.number_of.Goals as goal

pub returns-clause-number : goal.returns-clause-number
returns-clause-number c =
    let point = IsPartitionPoint-from_clause (λ t. is_before t.now c.args.name.now) _ _ c.partition_point.ensures.partitioned (sorted_parts (λ t. t.now) c.args.names.now c.args.name.now c.requires) (λ a r q k. search (rules, tests)) in
    point_number (λ t. t.now) c.args.names.now c.args.name.now c.partition_point.result c.partition_point.ensures.bound point
